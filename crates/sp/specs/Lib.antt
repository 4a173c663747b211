-- What the code's answers say of the steps' outcomes, and what its functions ask.
pub mod Clauses
