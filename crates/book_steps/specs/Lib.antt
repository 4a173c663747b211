-- A whole book: its outcome, and what is claimed of it. Read in this order: first what the outcome is, then from Conditions on what is claimed; proofs/
-- proves it.
pub mod Text  -- bytes, lines, words and numbers
pub mod Reader  -- what a line says; 4 and 5
pub mod Answers  -- answers as bytes
pub mod Sentence  -- the sentence of `why` in pieces
pub mod Run  -- the outcome of a book with what is lent
pub mod Meaning  -- the rules that its lines mean
pub mod Conditions  -- when each number is returned
pub mod Demands  -- what answers and tables mean
pub mod RunSpec  -- what is claimed of the lines of a run
pub mod Claim  -- .. of a book, of the public entry, and of what `netcheck` writes
