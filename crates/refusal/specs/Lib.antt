-- The refusals, and what an answer of the code says as an outcome of the steps.
pub mod Numbers
