-- What the check of names and types requires, from an accepted catalogue and a view whose structure was taken.
-- Assumes nothing.
use Prim.Native.Nat.{ℕ}
use Rattle.std.specs.Prelude.{Result, Ok}
use mathlib.Core.Path.{◌≡◌, sym, ap, ◌∙◌}
use mathlib.Core.List.{List}
use Rattle.word.specs.Header.{count_at}
use Rattle.word.specs.Refusal.{said}
use Rattle.word.specs.declared.refusal.Refusal.{Refusal}
use Rattle.catalogue.specs.Fault as fault
use Rattle.catalogue.specs.Starts.{starts_array}
use Rattle.catalogue.proofs.Meaning.{taken_records, taken_few, taken_starts}
use Rattle.view.specs.Parse as parse
use Rattle.resolve.specs.Claims.{Accepted}

pub may_resolve : (c ss v : List ℕ) (t n nc k : ℕ) (x y : Result ℕ Refusal) → said x ≡ fault.check_of c → x ≡ Ok t → said y ≡ parse.check_of v → y ≡ Ok n → nc ≡ count_at c → ss ≡ starts_array c nc → Accepted c ss v (record { nc = nc; tables = t; n = n; k = k })
may_resolve c ss v t n nc k x y a b d e h s =
    record {
      cat_long = taken_records c t x a b nc h;
      cat_few = taken_few c t x a b nc h;
      starts = taken_starts c t x a b nc h ss s;
      taken = sym d ∙ ap said e;
    }
