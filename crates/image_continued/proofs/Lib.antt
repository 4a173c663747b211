-- That a continued book gets the answers of the uninterrupted run. Read in this order.
pub mod Follow  -- two runs side by side
pub mod Records  -- tables with the same records
pub mod Epsilon  -- epsilon
pub mod Counts  -- no more transitions
pub mod Delta  -- delta
pub mod Tables  -- all tables of a query
pub mod Search  -- is_empty
pub mod Settle  -- live_packets, the work list
pub mod Live  -- live sets
pub mod Kept  -- .. kept in words 7
pub mod Alone  -- .. worked out in the second run alone
pub mod Packets  -- live_packets
pub mod Ifwd  -- ifwd goes by the set
pub mod Pruned  -- delta_pruned
pub mod Why  -- why
pub mod Lines  -- a line
pub mod RunsOn  -- the rest of the text
pub mod Stripped  -- what is read from an own image
pub mod Book  -- a book that is continued, and the claim
pub mod Lengths  -- the same book with lent lengths no smaller
pub mod Answers  -- every answer, in words of the calls
