-- 02 (i): `why` as steps, and what is stated of them. Read in this order.
pub mod Why  -- the rounds, and the string that is picked
