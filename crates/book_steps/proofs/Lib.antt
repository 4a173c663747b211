-- That what specs/ states is so, and computed books. Read in this order.
pub mod TextLaws  -- numbers are read as they are written
pub mod AnswersLaws  -- the share is the nearest thousandth
pub mod Sentence  -- the sentence of `why` in pieces, and its length
pub mod MeaningLaws  -- the rule that a line adds
pub mod Meaning  -- lines by states and by rules go alike
pub mod Numbers  -- what a constructor line can be refused with
pub mod Conditions  -- when each number is returned, place by place
pub mod Reading  -- 4 and 5
pub mod Answers  -- what an answer says
pub mod Header  -- a header's numbers are below 2^64
pub mod Printed  -- what an answer's bytes tell
pub mod Lines  -- a line
pub mod Runs  -- a run
pub mod Finished  -- run, then finished, is the outcome
pub mod LineNumbers  -- the text line of a refusal is at most 2,050
pub mod Claim  -- a book, and the public entry
pub mod Netcheck  -- the program
pub mod Examples  -- lines read, computed
pub mod RunExamples  -- books run, computed
pub mod Refusals  -- books refused, computed; what `netcheck` writes
