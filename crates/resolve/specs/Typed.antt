-- The walk's answer: what is known of a value, with the next record; or the refusal.
-- Assumes nothing.
use Rattle.std.specs.Prelude.{ℕ, List}
use Rattle.word.specs.Refusal.{Checked, fine, refusal}
use Rattle.class.specs.declared.Info.{Info}
use Rattle.cell.specs.declared.Type.{«Type» as Ty}
use Rattle.catalogue.specs.Tables.{Table}
use Rattle.view.specs.Ast.{Exp, Parsed, ok, refused}
use Rattle.scope.specs.Scopes.{Open}
use Rattle.resolve.specs.Expr.{Expr}
use Rattle.resolve.specs.Resolve.{Out, good, bad, resolve}
use Rattle.resolve.specs.Infos.{class_info}
use Rattle.resolve.specs.Sizes.{size_d, weigh, capped}
use Rattle.resolve.specs.declared.Known.{Known}

-- a value's type, what is known of its class, the next record, and how many records its data and its class take, stopped just above 8,190
unfoldable pub known_of : ℕ → List Info → ℕ → Expr → Ty → Known
known_of k is next x t =
    record {
      ty = t;
      info = class_info k is x;
      next = next;
      values = capped (size_d x);
      classes = capped (weigh k is x).size;
    }

unfoldable pub typed_at : ℕ → List Info → ℕ → Out → Checked Known
typed_at k is next (good x t) = fine (known_of k is next x t)
typed_at k is next (bad number place) = refusal number place

unfoldable pub typed_by : ℕ → List Table → List Open → List Info → Parsed Exp → Checked Known
typed_by k cat Γ is (ok e next) = typed_at k is next (resolve cat Γ e)
typed_by k cat Γ is (refused number place) = refusal number place
