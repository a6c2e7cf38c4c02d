-- What an answer says of a rule: the code answers `Some` where the rule gives a result, `None` where it is stuck.
-- Assumes nothing.
use Rattle.std.proofs.Common.{◌≡◌, Some, None}
use Rattle.cell.specs.Res.{Res, stuck, done, option_of}

pub some_is : {A : Type 0} {a : A} (r : Res A) → Some a ≡ option_of r → r ≡ done a
unfolding option_of
some_is stuck e = cc
some_is (done b) e = cc

pub none_is : {A : Type 0} (r : Res A) → None ≡ option_of r → r ≡ stuck
unfolding option_of
none_is stuck e = cc
none_is (done b) e = cc

pub ruleset options = (some_is, none_is)
