-- The operands of a state by kind; those looked at one after another, and states one below another.
pub mod ByKind
pub mod Down
