pub mod KindRows
pub mod ModifierRows
pub mod TypeParameterRows
pub mod ValueRows
pub mod ParameterRows
pub mod ReceiverRows
pub mod FunctionRows
