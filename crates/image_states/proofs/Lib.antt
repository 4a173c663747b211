-- What each way through the reading of a state comes to. Read in this order.
pub mod Copying  -- members that are copied to scratch
pub mod Entering  -- a record that is entered
pub mod Turning  -- a record that is read, and all of them
