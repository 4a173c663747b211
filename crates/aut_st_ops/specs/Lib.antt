-- st_union, st_intersect and st_difference: what is asked.
pub mod Asked
