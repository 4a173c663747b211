-- A run of calls on lent tables, a call at a time. Read in this order.
pub mod Rule  -- the rule, for any layer of tables
pub mod OnLent  -- all tables that are lent as a layer of it
