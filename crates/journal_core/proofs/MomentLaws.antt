-- How moments of a clocked disk go on, for the crates above.
pub use Rattle.journal_core.specs.Private.DiskMoments.{goes_not, goes_two, joined, leaves_weaker, none, one_moment, weaker}
