-- The answer to a query line (01, "Query lines") is promised as book_ask promises it; passed on.
pub use Rattle.book_ask.specs.Clauses
