-- What becomes of the source and the sink of a command, whatever it answers.
use Rattle.std.specs.Prelude.{◌≡◌, ℕ, ◌≤◌}
use Rattle.sa_io.specs.Input.{LosesAtMost}
use Rattle.sa_cli.specs.declared.outcome.Status.{Status}
use Rattle.sa_cli.specs.Outcome.{WritesNothing}
use Rattle.sa_io.specs.Streams.{World}
pub use Rattle.sa_io.specs.Streams.{Streams, streams, world_by}

-- What a command with this status that may read so many bytes did to the source and the sink, which were `before` and have become `after`.
pub record UsesStreams {S K : Type 0} (world_of : Streams S K → World) (most : ℕ) (before after : Streams S K) (status : Status) : Type 0 where
  -- The sink is what it was wherever the status says that nothing is written.
  pub unwritten : WritesNothing status → after.sink ≡ before.sink
  -- Whatever the status, the source lost so many bytes at its front at most, or none.
  pub lost : LosesAtMost most (world_of before).left (world_of after).left
  -- Whatever the status, the count of failed reads did not fall.
  pub reads_counted : (world_of before).reads ≤ (world_of after).reads
  -- Whatever the status, the count of failed writes did not fall.
  pub writes_counted : (world_of before).writes ≤ (world_of after).writes
