-- What a writer says: these bytes are put into its buffer from its place on, and its place is the one after them.
-- Assumes nothing.
use Rattle.std.specs.Prelude.{◌≡◌, ℕ, ◌+◌, List, length}
use Rattle.word.specs.Buffer.{put}
use Rattle.word.specs.declared.writer.Writer.{Writer}

pub record Writes (xs : List ℕ) (old new : Writer) : Type 0 where
  pub same : new.out.ghost_name ≡ old.out.ghost_name
  pub place : new.at ≡ old.at + length xs
  pub written : new.out.now ≡ put old.out.now old.at xs
