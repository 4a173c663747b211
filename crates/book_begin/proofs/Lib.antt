-- Words zeroed one after another; the constants in zeroed tables; the first line.
pub mod Zero
pub mod Made
pub mod Beginning
