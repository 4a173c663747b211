-- 01, "Lent tables": a slice that is lent, before a call and after it.
pub mod Same
