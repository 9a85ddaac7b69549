pub mod TokenMoves
pub mod JumpRows
pub mod ConditionalRows
pub mod LocalRows
pub mod LoopRows
