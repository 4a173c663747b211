-- The laws of `epsilon` and `delta`. Read in this order.
pub mod Examples  -- 01's rows and other runs, computed
pub mod Order  -- the order of delta's steps, computed
pub mod Labels  -- what each operation on labels makes
pub mod Fits  -- netkat's laws of lists hold of these tables
pub mod Agree  -- two runs that come to the same
pub mod Noted  -- words 4 written: the tables stay in order
pub mod Wf  -- what is worked out stays true
pub mod Operands  -- operands are nested less
pub mod EpsilonLaws  -- the law of epsilon
pub mod EpsilonReads  -- it is the one that reads from the tables
pub mod EpsilonDown  -- it may go the way down first
pub mod DeltaLists  -- the list of each kind is a delta of the right strings
pub mod Extends  -- a list that is stored
pub mod Sizes  -- the transitions in use are those of the stored lists
pub mod ListGoes  -- why each list is refused
pub mod DeltaRuns  -- what a run of delta comes to, a step after another
pub mod DeltaLaws  -- the law of delta
pub mod DeltaReads  -- it is the one that reads from the tables
pub mod DeltaDown  -- it may go the way down first
pub mod PlainSearch  -- what is promised of the plain search holds of both
pub mod Books  -- a whole book with its searches, computed
