-- Worked cases of names, as one table: what the entries of the table of open scopes say for a name.
-- Assumes nothing.
use Prim.Native.Nat.{ℕ}
use mathlib.Core.Path.{◌≡◌, refl}
use mathlib.Core.List.{List, [], ◌∷◌, ◌++◌, map}
use Rattle.word.specs.Bytes.{le16}
use Rattle.word.specs.Header.{drc, header}
use Rattle.word.specs.Record.{rec_bytes}
use Rattle.class.specs.Info.{info_by}
use Rattle.class.specs.declared.Info.TheVariants.{Fixed, Bound}
use Rattle.cell.specs.Types.{type_by}
use Rattle.cell.specs.declared.Type.TheVariants as T
use Rattle.catalogue.specs.Tables.{column_at, cols_from, table_at}
use Rattle.scope.specs.Scopes.{only_of, in_cols, in_table, in_tabs, in_scope, nearest, find}
use Rattle.scope.specs.Table.{tabs_at, open_of, scopes_of, infos_of, found_of}
use Rattle.scope.specs.Entry.{table_in, info_in, local_scope, block_scope}
use Rattle.scope.specs.declared.Scope.{Scope}
use Rattle.scope.specs.declared.Found.{Found}
use Rattle.scope.specs.declared.Found.TheVariants as F

-- table 7, whose rows have a bound, with the columns 20 and 21; table 8 with the columns 21 and 22
abbrev cat : List ℕ
cat = header drc 6 ++ rec_bytes 1 1 7 4096 0 ++ rec_bytes 2 0 20 0 578 ++ rec_bytes 2 1 21 8193 256 ++ rec_bytes 1 0 8 0 0 ++ rec_bytes 2 0 21 1 256 ++ rec_bytes 2 0 22 0 1280

abbrev seven : Scope
seven = block_scope (0 ∷ 0 ∷ 0 ∷ 0 ∷ []) 1

abbrev eight : Scope
eight = block_scope (3 ∷ 0 ∷ 0 ∷ 0 ∷ []) 1

abbrev both : Scope
both = block_scope (0 ∷ 3 ∷ 0 ∷ 0 ∷ []) 2

abbrev twice : Scope
twice = block_scope (0 ∷ 0 ∷ 0 ∷ 0 ∷ []) 2

-- the locals 21 and 22
abbrev let21 : Scope
let21 = local_scope 21 T.Class (Bound 3)

abbrev let22 : Scope
let22 = local_scope 22 (T.Fixed 9 4) (Fixed 5)

-- a name, bare or qualified, among open scopes, the outermost first
pub record Question : Type 0 where
  pub name : ℕ
  pub table : ℕ
  pub scopes : List Scope
  pub depth : ℕ

abbrev answer : Question → Found
answer x = found_of (infos_of x.scopes x.depth) (find x.name x.table 0 (scopes_of cat 6 x.scopes x.depth))

abbrev ask : ℕ → ℕ → List Scope → ℕ → Question
ask x q ws d = record { name = x; table = q; scopes = ws; depth = d }

pub names_found : map answer (
    -- a bare column of one of two tables; of both it is ambiguous; qualified it is one
    ask 20 0 (both ∷ []) 1
    ∷ ask 21 0 (both ∷ []) 1
    ∷ ask 21 8 (both ∷ []) 1
    -- a table taken twice
    ∷ ask 20 7 (twice ∷ []) 1
    -- the inner scope hides the outer one, which a qualified name still reaches
    ∷ ask 21 0 (eight ∷ seven ∷ []) 2
    ∷ ask 21 8 (eight ∷ seven ∷ []) 2
    -- a local, from its own scope and from further in; an inner column hides it
    ∷ ask 21 0 (both ∷ let21 ∷ []) 2
    ∷ ask 22 0 (let22 ∷ seven ∷ []) 2
    ∷ ask 22 0 (let22 ∷ eight ∷ []) 2
    -- a qualified name matches no local
    ∷ ask 21 7 (seven ∷ let21 ∷ []) 2
    -- an ambiguous scope ends the search
    ∷ ask 21 0 (let21 ∷ both ∷ []) 2
    -- no match; a table that isn't open
    ∷ ask 23 0 (both ∷ let21 ∷ []) 2
    ∷ ask 21 9 (both ∷ []) 1
    ∷ [])
    ≡ F.Column 0 0 0 (T.Fixed 4 2) (Fixed 0) (Bound 4096)
    ∷ F.Ambiguous
    ∷ F.Column 0 1 0 T.Boolean (Fixed 1) (Fixed 0)
    ∷ F.Ambiguous
    ∷ F.Column 0 0 1 T.Boolean (Bound 8193) (Bound 4096)
    ∷ F.Column 1 0 0 T.Boolean (Fixed 1) (Fixed 0)
    ∷ F.Local 0 T.Class (Bound 3)
    ∷ F.Local 1 (T.Fixed 9 4) (Fixed 5)
    ∷ F.Column 0 0 1 T.Class (Fixed 0) (Fixed 0)
    ∷ F.Column 1 0 1 T.Boolean (Bound 8193) (Bound 4096)
    ∷ F.Ambiguous
    ∷ F.None
    ∷ F.None
    ∷ []
unfolding header le16 rec_bytes type_by info_by column_at cols_from table_at only_of in_cols in_table in_tabs in_scope nearest find tabs_at open_of scopes_of infos_of found_of local_scope block_scope table_in info_in
names_found = refl
