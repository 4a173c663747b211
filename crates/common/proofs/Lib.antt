-- The laws of what meaning and steps share. Read in this order.
pub mod PacketLaws  -- all packets are listed, 2 ^ n of them; the tests on sets
pub mod RelationLaws  -- the tests on relations say what their names say; the star is the closure
pub mod Follow  -- how to follow the steps of a run
pub mod Runs  -- runs that stay true, one after another, and on a part of a store
pub mod Rows  -- two tables of rows that hold, joined
