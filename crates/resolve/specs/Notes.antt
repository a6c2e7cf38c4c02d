-- What the walk notes of each record of a value, for the writer of its data: one number for each record, in the records' order.
-- Assumes nothing.
use Rattle.std.specs.Prelude.{ℕ, ◌+◌, ◌*◌, ◌%◌, ◌≡◌, cond, List, [], ◌∷◌, ◌++◌, map, length, get_or, set}
use Rattle.word.specs.Buffer.{put}
use Rattle.class.specs.declared.Info.{Info}
use Rattle.class.specs.declared.Info.TheVariants.{Fixed, Bound}
use Rattle.cell.specs.Types.{digits_of, scale_of, same_type}
use Rattle.cell.specs.declared.Type.{«Type» as Ty}
use Rattle.catalogue.specs.Tables.{Table, TabRef, tables_from}
use Rattle.view.specs.Ast.{Exp, Parsed, ok, refused}
use Rattle.view.specs.Parse.{names_at}
use Rattle.scope.specs.Scopes.{Open}
use Rattle.scope.specs.Blocks.{refs_of, tables_named}
use Rattle.scope.specs.declared.Found.{Found}
use Rattle.scope.specs.declared.Found.TheVariants as F
use Rattle.resolve.specs.Expr.{Expr}
use Rattle.resolve.specs.Expr as expr
use Rattle.resolve.specs.Resolve.{Out, good, bad, resolve, Outs, goods, bads, Resolved, select, refused as denied}
use Rattle.resolve.specs.Infos.{class_info}

-- a column: scopes outward, table in block, column; a local: scopes outward, with 2^48 more
unfoldable pub column_note : ℕ → ℕ → ℕ → ℕ
column_note a b c = a + 65536 * b + 4294967296 * c

unfoldable pub local_note : ℕ → ℕ
local_note a = 281474976710656 + a

-- CONV's 16p+s before a value, in the top byte of the note of its first record
unfoldable pub marked : ℕ → List ℕ → List ℕ
marked m [] = []
marked m (w ∷ ws) = (w % 72057594037927936 + 72057594037927936 * m) ∷ ws

-- THE NOTES of a resolved value: at a name what it finds, at BINOP the digits of its result, at a TABLE the table's number; else 0
unfoldable pub notes_of : Expr → List ℕ
notes_of (expr.Expr.const t v) = 0 ∷ []
notes_of (expr.Expr.col a b c i) = column_note a b c ∷ []
notes_of (expr.Expr.classof a b c i) = column_note a b c ∷ []
notes_of (expr.Expr.local a) = local_note a ∷ []
notes_of (expr.Expr.bin op p x y) = p ∷ (notes_of x ++ notes_of y)
notes_of (expr.Expr.neg x) = 0 ∷ notes_of x
notes_of (expr.Expr.conv p s x) = marked (16 * p + s) (notes_of x)
notes_of (expr.Expr.if c x y) = 0 ∷ (notes_of c ++ (notes_of x ++ notes_of y))
notes_of (expr.Expr.letin x y) = 0 ∷ (notes_of x ++ notes_of y)
notes_of (expr.Expr.exists f ts w) = 0 ∷ (map (λ (t : TabRef). t.num) ts ++ notes_of w)
notes_of (expr.Expr.single g ts w v) = 0 ∷ (map (λ (t : TabRef). t.num) ts ++ (notes_of w ++ notes_of v))

-- what notes o are after the walk over a value from record `at` on, o before it: a value that is taken is noted, and nothing else is touched; of the notes of one that is refused nothing is said
unfoldable pub Noted : Out → ℕ → List ℕ → List ℕ → Type 0
Noted (good x t) at o o' = o' ≡ put o at (notes_of x)
Noted (bad number place) at o o' = Unit {0}

unfoldable pub NotedBy : List Table → List Open → Parsed Exp → ℕ → List ℕ → List ℕ → Type 0
NotedBy cat Γ (ok e next) at o o' = Noted (resolve cat Γ e) at o o'
NotedBy cat Γ (refused number place) at o o' = Unit {0}

-- the notes of several values, one after the other; and of a whole view, from its where on
unfoldable pub notes_all : List Expr → List ℕ
notes_all [] = []
notes_all (x ∷ xs) = notes_of x ++ notes_all xs

unfoldable pub NotedAll : Outs → ℕ → List ℕ → List ℕ → Type 0
NotedAll (goods xs ts) at o o' = o' ≡ put o at (notes_all xs)
NotedAll (bads number place) at o o' = Unit {0}

unfoldable pub NotedView : Resolved → List ℕ → List ℕ → Type 0
NotedView (select s ts) o o' = o' ≡ put o (1 + length s.from) (notes_of s.test ++ notes_all s.values)
NotedView (denied number place) o o' = Unit {0}

-- THE ENDS of several values, from record `at` on: the record after each, and what is known of its class; k is the class of the view's constants
unfoldable pub end_note : ℕ → Info → ℕ
end_note next (Fixed k) = next + 65536 * k
end_note next (Bound b) = next + 65536 * b + 4294967296

unfoldable pub ends_of : ℕ → List Info → ℕ → List Expr → List ℕ
ends_of k is at [] = []
ends_of k is at (x ∷ xs) = end_note (at + length (notes_of x)) (class_info k is x) ∷ ends_of k is (at + length (notes_of x)) xs

-- they stand from place i on; in a view, from place 0 on: first the where's, then each value's
unfoldable pub EndedAll : ℕ → List Info → Outs → ℕ → ℕ → List ℕ → List ℕ → Type 0
EndedAll k is (goods xs ts) at i o o' = o' ≡ put o i (ends_of k is at xs)
EndedAll k is (bads number place) at i o o' = length o' ≡ length o

unfoldable pub EndedView : ℕ → Resolved → List ℕ → List ℕ → Type 0
EndedView k (select s ts) o o' = o' ≡ put o 0 (ends_of k (Fixed 0 ∷ []) (1 + length s.from) (s.test ∷ s.values))
EndedView k (denied number place) o o' = length o' ≡ length o

-- THE STEPS of the walk. The note of what a name finds
unfoldable pub found_note : Found → ℕ
found_note (F.Column a b c t i r) = column_note a b c
found_note (F.Local a t i) = local_note a
found_note F.None = 0
found_note F.Ambiguous = 0

-- the numbers of the tables that so many TABLE records name, from record `at` on, over n records of a catalogue
unfoldable pub numbers_at : List ℕ → ℕ → List ℕ → ℕ → ℕ → List ℕ
numbers_at c n v at count = map (λ (t : TabRef). t.num) (refs_of (tables_named (tables_from c n n 0) (names_at v at count)))

-- notes in which a limb of type s, from record `at` on, is brought to type t
unfoldable pub marked_at : List ℕ → ℕ → Ty → Ty → List ℕ
marked_at o at s t =
    cond (same_type s t) o
    (set o at (get_or o at 0 % 72057594037927936 + 72057594037927936 * ((16 * digits_of t + scale_of t) % 256)))
