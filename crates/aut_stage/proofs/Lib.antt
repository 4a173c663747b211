-- The laws of aut_stage, each beside the definitions of the same name in specs/.
pub mod Rule
pub mod Turns
pub mod OnLent
