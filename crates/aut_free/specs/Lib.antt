-- State words 7 to 11 are the queries' own: constructors, operations on transition lists, epsilon and delta neither read nor write them.
pub mod Clear  -- tables with words 8 to 11 zero; a change of the states' words, on all tables
