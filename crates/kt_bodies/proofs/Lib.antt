pub mod Sequences
pub mod StatementRows
pub mod TokenRows
pub mod Looking
pub mod LambdaRows
pub mod TryRows
pub mod SuperRows
