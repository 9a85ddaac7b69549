pub mod ArgumentRows
pub mod ConstantRows
pub mod ConstructorRows
pub mod Lists
pub mod ParameterRows
pub mod SupertypeRows
