-- What an entry has for a name, and the search from the innermost scope outward: one law for each place of the code.
-- Assumes nothing.
use Prim.Native.Nat.{ℕ, zero, suc, ◌+◌, ◌-◌, ◌<◌, ◌≤◌, min}
use mathlib.Core.Path.{◌≡◌, refl, sym, ap, ◌∙◌}
use mathlib.Core.Bool.{Bool, true, false}
use mathlib.Core.List.{List, [], ◌∷◌, ◌++◌}
use native.Mathlib.Omega.{arith}
use borrow.Author.Rules.{rules}
use borrow.Author.Tests.{eq-eqb, ne_eqb}
use lib.ListN.{length, get_or}
use Rattle.word.specs.Record.{op_at, b_at}
use Rattle.class.specs.Info.{info_by}
use Rattle.class.specs.declared.Info.{Info}
use Rattle.class.specs.declared.Info.TheVariants.{Fixed}
use Rattle.catalogue.specs.Tables.{column_at, table_at}
use Rattle.scope.specs.Scopes.{Hit, column, bound, Only, none, one, more, only_of, in_table, in_tabs, in_scope, nearest, find}
use Rattle.scope.specs.Entry.{table_in, info_in}
use Rattle.scope.specs.Table.{tabs_at, open_of, blank, scopes_of, infos_of, found_of}
use Rattle.scope.specs.Match.{found_in, any_of, only_by, MatchIs, AnyIs}
use Rattle.scope.specs.declared.Block.{Block}
use Rattle.scope.specs.declared.Local.{Local}
use Rattle.scope.specs.declared.Scope.{Scope}
use Rattle.scope.specs.declared.Scope.TheVariants as S
use Rattle.scope.specs.declared.Found.{Found}
use Rattle.scope.specs.declared.Found.TheVariants as F
use Rattle.scope.specs.declared.names.Matches.{Matches}
use Rattle.scope.specs.declared.names.Matches.TheVariants as N
use Rattle.scope.proofs.Hits.{both, only_both, any_both, both_alone, both_two, same_scope}

-- the record of a block's table
pub table_is : (b : Block) (j t : ℕ) → t ≡ get_or b.tables j 0 → t ≡ table_in (S.Block b) j
unfolding table_in
table_is b j t e = e

-- the tables of a block: what is left of them
module _ (c : List ℕ) (n : ℕ) (s : Scope) (count name q : ℕ) where
  -- from number j on
  unfoldable pub tabs_left : ℕ → ℕ → Only Hit
  tabs_left a j = only_of (in_tabs name q a j (tabs_at c n s j (count - j)))

  tabs_all : (a : ℕ) → only_of (in_tabs name q a 0 (tabs_at c n s 0 count)) ≡ tabs_left a 0
  unfolding tabs_left
  tabs_all a = let h : count - 0 ≡ count = omega arith in rw h

  tab_next : (j : ℕ) → j < count → tabs_at c n s j (count - j) ≡ table_at c n (table_in s j) ∷ tabs_at c n s (j + 1) (count - (j + 1))
  unfolding tabs_at
  tab_next j h = let e : count - j ≡ suc (count - (j + 1)) = omega arith in rw e

  left_next : (a j t : ℕ) → j < count → t ≡ table_in s j → tabs_left a j ≡ only_of (in_table name q a j (table_at c n t) ++ in_tabs name q a (j + 1) (tabs_at c n s (j + 1) (count - (j + 1))))
  unfolding tabs_left in_tabs
  left_next a j t h f = rw (f, tab_next j h)

  left_none : (a j : ℕ) → count ≤ j → tabs_left a j ≡ none
  unfolding tabs_left in_tabs tabs_at only_of
  left_none a j h = let k : count - j ≡ 0 = omega arith in rw k

-- no table from number i up to number j has the name
pub record Passed (c : List ℕ) (n : ℕ) (s : Scope) (count name q i j : ℕ) : Type 0 where
  pub same : (a : ℕ) → tabs_left c n s count name q a i ≡ tabs_left c n s count name q a j

module _ (c : List ℕ) (n : ℕ) (s : Scope) (count name q : ℕ) where
  pub tabs_begin : (i : ℕ) → Passed c n s count name q i i
  tabs_begin i = record { same = λ a. refl }

  module _ (i j : ℕ) (p : Passed c n s count name q i j) where
    pub any_no : count ≤ j → AnyIs c n s count name q i false
    unfolding tabs_left any_of
    any_no h = record { says = λ a. sym (ap any_of (p.same a ∙ left_none c n s count name q a j h)) }

    module _ (t : ℕ) (r : Matches) (h : j < count) (f : t ≡ table_in s j) (m : MatchIs c n t name q r) where
      next : (z : Matches) → r ≡ z → (a : ℕ) → tabs_left c n s count name q a i ≡ both (only_by c n t a j z) (tabs_left c n s count name q a (j + 1))
      unfolding tabs_left
      next z e a = p.same a ∙ left_next c n s count name q a j t h f ∙ only_both (in_table name q a j (table_at c n t)) (in_tabs name q a (j + 1) (tabs_at c n s (j + 1) (count - (j + 1)))) ∙ rw (m.says a j, e)

      pub tabs_again : r ≡ N.None → Passed c n s count name q i (j + 1)
      unfolding only_by both
      tabs_again e = record { same = next N.None e }

      any_next : (z : Matches) → r ≡ z → (r ≡ N.None → ⊥) → (a : ℕ) → any_of (tabs_left c n s count name q a i) ≡ true
      unfolding only_by both any_of
      any_next N.None e g a = absurd (g e)
      any_next (N.One k) e g a = ap any_of (next (N.One k) e a) ∙ any_both _ _
      any_next N.Several e g a = ap any_of (next N.Several e a)

      pub any_yes : (r ≡ N.None → ⊥) → AnyIs c n s count name q i true
      unfolding tabs_left
      any_yes g = record { says = λ a. sym (any_next r refl g a) }

  -- what in_block answers, where no table up to number j has the name
  module _ (j a : ℕ) (p : Passed c n s count name q 0 j) where
    pub block_none : count ≤ j → F.None ≡ found_in (Fixed 0) (only_of (in_tabs name q a 0 (tabs_at c n s 0 count)))
    unfolding found_in
    block_none h = sym (ap (found_in (Fixed 0)) (tabs_all c n s count name q a ∙ p.same a ∙ left_none c n s count name q a j h))

    module _ (t : ℕ) (r : Matches) (h : j < count) (f : t ≡ table_in s j) (m : MatchIs c n t name q r) where
      pub block_several : r ≡ N.Several → F.Ambiguous ≡ found_in (Fixed 0) (only_of (in_tabs name q a 0 (tabs_at c n s 0 count)))
      unfolding only_by both found_in
      block_several e = sym (ap (found_in (Fixed 0)) (tabs_all c n s count name q a ∙ next 0 j p t r h f m N.Several e a))

      module _ (i : ℕ) (e : r ≡ N.One i) (x : Bool) (y : AnyIs c n s count name q (j + 1) x) where
        whole : only_of (in_tabs name q a 0 (tabs_at c n s 0 count)) ≡ both (one (column a j (i - (t + 1)) (table_at c n t) (column_at c i))) (tabs_left c n s count name q a (j + 1))
        unfolding only_by
        whole = tabs_all c n s count name q a ∙ next 0 j p t r h f m (N.One i) e a

        any_left : any_of (tabs_left c n s count name q a (j + 1)) ≡ x
        unfolding tabs_left
        any_left = sym (y.says a)

        pub block_two : x ≡ true → F.Ambiguous ≡ found_in (Fixed 0) (only_of (in_tabs name q a 0 (tabs_at c n s 0 count)))
        unfolding found_in
        block_two g = sym (ap (found_in (Fixed 0)) (whole ∙ both_two _ _ (any_left ∙ g)))

        pub block_one : (u : Found) → x ≡ false → u ≡ F.Column a j (i - (t + 1)) (column_at c i).ty (column_at c i).info (info_by (op_at c t) (b_at c t)) → u ≡ found_in (Fixed 0) (only_of (in_tabs name q a 0 (tabs_at c n s 0 count)))
        unfolding found_in table_at
        block_one u g d = d ∙ sym (ap (found_in (Fixed 0)) (whole ∙ both_alone _ _ (any_left ∙ g)))

-- one entry, a local's
module _ (c : List ℕ) (n : ℕ) (l : Local) (name q a : ℕ) where
  pub local_yes : q ≡ 0 → l.name ≡ name → F.Local a l.ty l.info ≡ found_in (info_in (S.Local l)) (only_of (in_scope name q a (open_of c n (S.Local l))))
  unfolding open_of info_in in_scope found_in only_of
  local_yes e f = rw (eq-eqb q 0 e, eq-eqb l.name name f)

  pub local_other : q ≡ 0 → (l.name ≡ name → ⊥) → F.None ≡ found_in (info_in (S.Local l)) (only_of (in_scope name q a (open_of c n (S.Local l))))
  unfolding open_of info_in in_scope found_in only_of
  local_other e f = rw (eq-eqb q 0 e, ne_eqb l.name name f)

  pub local_qualified : (q ≡ 0 → ⊥) → F.None ≡ found_in (info_in (S.Local l)) (only_of (in_scope name q a (open_of c n (S.Local l))))
  unfolding open_of info_in in_scope found_in only_of
  local_qualified f = rw (ne_eqb q 0 f)

pub block_whole : (c : List ℕ) (n : ℕ) (b : Block) (name q a : ℕ) (r : Found) → r ≡ found_in (Fixed 0) (only_of (in_tabs name q a 0 (tabs_at c n (S.Block b) 0 (min b.count 4))))
    → r ≡ found_in (info_in (S.Block b)) (only_of (in_scope name q a (open_of c n (S.Block b))))
unfolding open_of info_in in_scope
block_whole c n b name q a r e = e

pub ruleset entries = (tabs_begin, any_no, block_none, rules)

-- from the innermost outward
near_some : (is : List Info) (x y : Only Hit) → (found_of is x ≡ F.None → ⊥) → found_of is (nearest x y) ≡ found_of is x
unfolding nearest found_of
near_some is none y e = absurd (e refl)
near_some is (one h) y e = refl
near_some is more y e = refl

near_none : (is : List Info) (x y : Only Hit) → found_of is x ≡ F.None → found_of is (nearest x y) ≡ found_of is y
unfolding nearest found_of
near_none is none y e = refl
near_none is (one (column a b k t u)) y e = absurd (let z : ◌≡◌ {A = ℕ} 0 1 = cc in omega arith)
near_none is (one (bound a t)) y e = absurd (let z : ◌≡◌ {A = ℕ} 0 1 = cc in omega arith)
near_none is more y e = absurd (let z : ◌≡◌ {A = ℕ} 0 1 = cc in omega arith)

module _ (t : List Scope) where
  -- the class of the scope that is a outward
  info_outward : (d a : ℕ) → a < d → get_or (infos_of t d) a (Fixed 0) ≡ info_in (get_or t (d - (a + 1)) blank)
  unfolding infos_of
  info_outward zero a h = absurd (omega arith)
  info_outward (suc d) zero h = let e : suc d - (0 + 1) ≡ d = omega arith in rw e
  info_outward (suc d) (suc a) h = let e : suc d - (suc a + 1) ≡ d - (a + 1) = omega arith in rw e (info_outward d a (omega arith))

  module _ (c : List ℕ) (n depth name q : ℕ) where
    unfoldable pub scopes_left : ℕ → ℕ → Found
    scopes_left a d = found_of (infos_of t depth) (find name q a (scopes_of c n t d))

    pub find_begin : found_of (infos_of t depth) (find name q 0 (scopes_of c n t depth)) ≡ scopes_left 0 depth
    unfolding scopes_left
    find_begin = refl

    scope_next : (d : ℕ) → 0 < d → scopes_of c n t d ≡ open_of c n (get_or t (d - 1) blank) ∷ scopes_of c n t (d - 1)
    unfolding scopes_of
    scope_next zero h = absurd (omega arith)
    scope_next (suc d) h = let e : suc d - 1 ≡ d = omega arith in rw e

    module _ (a d : ℕ) (X : Found) (e : X ≡ scopes_left a d) where
      module _ (h : Found) (f : 0 < d) (l : a + d ≡ depth) (g : h ≡ found_in (info_in (get_or t (d - 1) blank)) (only_of (in_scope name q a (open_of c n (get_or t (d - 1) blank))))) where
        here : h ≡ found_of (infos_of t depth) (only_of (in_scope name q a (open_of c n (get_or t (d - 1) blank))))
        here = let m : depth - (a + 1) ≡ d - 1 = omega arith in g ∙ rw (same_scope (infos_of t depth) name q a, info_outward depth a (omega arith), m)

        pub find_here : (h ≡ F.None → ⊥) → h ≡ X
        unfolding scopes_left find
        find_here y = sym (e ∙ rw (scope_next d f) (near_some _ _ _ (λ z. y (here ∙ z)) ∙ sym here))

        pub find_again : h ≡ F.None → X ≡ scopes_left (a + 1) (d - 1)
        unfolding scopes_left find
        find_again y = e ∙ rw (scope_next d f) (near_none _ _ _ (sym here ∙ y))

      pub find_none : d ≡ 0 → F.None ≡ X
      unfolding scopes_left find scopes_of found_of
      find_none k = sym (e ∙ rw k)

-- an entry within a table is read whatever stands for one past its end
pub entry_within : (t : List Scope) (j : ℕ) (a b : Scope) → j < length t → get_or t j a ≡ get_or t j b
entry_within [] j a b l = absurd (omega (arith, l))
entry_within (s ∷ t) zero a b l = refl
entry_within (s ∷ t) (suc j) a b l = entry_within t j a b (omega (arith, l))
