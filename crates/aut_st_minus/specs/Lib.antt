-- st_difference's loops: what is asked, and their answer in the words of the steps.
pub mod Clauses
