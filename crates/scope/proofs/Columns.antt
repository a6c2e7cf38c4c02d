-- What a table has for a name: one law for each place of the code.
-- Assumes nothing.
use Rattle.std.specs.Prelude.{Option, Some, None}
use Prim.Native.Nat.{ℕ, ◌+◌, ◌-◌, ◌<◌, ◌≤◌}
use mathlib.Core.Path.{◌≡◌, refl, sym, ap, ◌∙◌}
use mathlib.Core.Bool.{Bool, true, false, cond, ◌||◌}
use mathlib.Core.List.{List, [], ◌∷◌}
use native.Mathlib.Omega.{arith}
use borrow.Author.Rules.{rules}
use borrow.Author.Tests.{eq-eqb, ne_eqb}
use lib.Dec.{eqb}
use Rattle.word.specs.Record.{Record, rec_at, kind_at, a_at, c_at}
use Rattle.catalogue.specs.Tables.{Table, column_at, cols_from, table_at}
use Rattle.catalogue.proofs.Listed.{cols_next, cols_stop, cols_end}
use Rattle.scope.specs.Scopes.{column, only_of, in_cols, in_table}
use Rattle.scope.specs.Match.{FirstIs, MatchIs, first_by, only_by}
use Rattle.scope.specs.declared.names.Matches.{Matches}
use Rattle.scope.specs.declared.names.Matches.TheVariants as N

-- the fields of a record that was read
module _ (c : List ℕ) (i : ℕ) (x : Record) (e : x ≡ rec_at c i) where
  pub kind_read : x.kind ≡ kind_at c i
  unfolding rec_at
  kind_read = ap (λ (r : Record). r.kind) e

  pub a_read : x.a ≡ a_at c i
  unfolding rec_at
  a_read = ap (λ (r : Record). r.a) e

  pub c_read : x.c ≡ c_at c i
  unfolding rec_at
  c_read = ap (λ (r : Record). r.c) e

-- no column from record i up to record j has the name
pub record Unnamed (c : List ℕ) (n i name j : ℕ) : Type 0 where
  pub some : 1 ≤ i
  pub from : i ≤ j
  pub same : (a b k : ℕ) (t : Table) → in_cols name a b t k (cols_from c (n - i) i) ≡ in_cols name a b t (k + (j - i)) (cols_from c (n - j) j)

module _ (c : List ℕ) (n i name : ℕ) where
  pub named_begin : 1 ≤ i → Unnamed c n i name i
  named_begin p = record { some = p; from = omega arith; same = λ a b k t. let e : k + (i - i) ≡ k = omega arith in rw e }

  module _ (j : ℕ) (u : Unnamed c n i name j) where
    none_left : cols_from c (n - j) j ≡ [] → FirstIs c n i name None
    unfolding in_cols first_by
    none_left e = record { past = λ m z. absurd (let y : ◌≡◌ {A = ℕ} 0 1 = cc in omega arith); says = λ a b k t. u.same a b k t ∙ rw e }

    pub named_done : n ≤ j → FirstIs c n i name None
    named_done h = none_left (cols_end c n j h)

    module _ (w : ℕ) (y : w ≡ kind_at c j) where
      pub named_stop : (w ≡ 2 → ⊥) → FirstIs c n i name None
      named_stop f = none_left (cols_stop c (n - j) j (λ z. f (y ∙ z)))

      module _ (h : j < n) (f : w ≡ 2) (x : ℕ) (z : x ≡ a_at c j) where
        pub named_here : x ≡ name → FirstIs c n i name (Some j)
        unfolding in_cols first_by
        named_here g =
            let l = u.from in
            record { past = λ m o. let y : j ≡ m = cc in rw (← y) (l, h); says = λ a b k t. u.same a b k t ∙ rw (cols_next c n j h (sym y ∙ f)) (unfold column_at in rw (eq-eqb (a_at c j) name (sym z ∙ g))) }

        pub named_again : (x ≡ name → ⊥) → Unnamed c n i name (j + 1)
        unfolding in_cols
        named_again g =
            let l = u.from in
            record { some = u.some; from = omega arith; same = λ a b k t. u.same a b k t ∙ (let e : k + (j + 1 - i) ≡ k + (j - i) + 1 = omega arith in rw (cols_next c n j h (sym y ∙ f), e) (unfold column_at in rw (ne_eqb (a_at c j) name (λ o. g (z ∙ o))))) }

-- a table
module _ (c : List ℕ) (n t name : ℕ) where
  all_cols : (a b : ℕ) → in_table name 0 a b (table_at c n t) ≡ in_cols name a b (table_at c n t) 0 (cols_from c (n - (t + 1)) (t + 1))
  unfolding in_table table_at
  all_cols a b = refl

  no_match : (q : ℕ) → ((a b : ℕ) → in_table name q a b (table_at c n t) ≡ []) → MatchIs c n t name q N.None
  unfolding only_of only_by
  no_match q e = record { past = λ i z. absurd (let y : ◌≡◌ {A = ℕ} 0 1 = cc in omega arith); says = λ a b. rw (e a b) }

  module _ (r : Option ℕ) (f : FirstIs c n (t + 1) name r) where
    pub column_none : r ≡ None → MatchIs c n t name 0 N.None
    unfolding first_by
    column_none e = no_match 0 (λ a b. all_cols a b ∙ f.says a b 0 (table_at c n t) ∙ rw e)

    module _ (i : ℕ) (z : r ≡ Some i) (u : Option ℕ) (s : FirstIs c n (i + 1) name u) where
      two_cols : (a b : ℕ) → in_table name 0 a b (table_at c n t) ≡ column a b (i - (t + 1)) (table_at c n t) (column_at c i) ∷ in_cols name a b (table_at c n t) (i - (t + 1) + 1) (cols_from c (n - (i + 1)) (i + 1))
      unfolding first_by
      two_cols a b = let e : 0 + (i - (t + 1)) ≡ i - (t + 1) = omega arith in all_cols a b ∙ f.says a b 0 (table_at c n t) ∙ rw (z, e)

      pub column_one : u ≡ None → MatchIs c n t name 0 (N.One i)
      unfolding only_of only_by first_by
      column_one e =
          let l = f.past i z in
          record { past = λ j o. let y : i ≡ j = cc in rw (← y) (omega arith, l.1); says = λ a b. rw (two_cols a b, s.says a b (i - (t + 1) + 1) (table_at c n t), e) }

      pub column_more : (k : ℕ) → u ≡ Some k → MatchIs c n t name 0 N.Several
      unfolding only_of only_by first_by
      column_more k e = record { past = λ j o. absurd (let y : ◌≡◌ {A = ℕ} 0 1 = cc in omega arith); says = λ a b. rw (two_cols a b, s.says a b (i - (t + 1) + 1) (table_at c n t), e) }

  module _ (q : ℕ) where
    no_cols : n ≤ t → (table_at c n t).cols ≡ []
    unfolding table_at cols_from
    no_cols h = let k : n - (t + 1) ≡ 0 = omega arith in rw k

    either : {A : Type 0} (x : Bool) (y : A) → cond x y y ≡ y
    either true y = refl
    either false y = refl

    pub table_out : n ≤ t → MatchIs c n t name q N.None
    unfolding in_table in_cols
    table_out h = no_match q (λ a b. rw (no_cols h) (either (eqb q 0 || eqb (table_at c n t).tname q) []))

    meant : (a b : ℕ) → (eqb q 0 || eqb (a_at c t) q) ≡ true → in_table name q a b (table_at c n t) ≡ in_table name 0 a b (table_at c n t)
    unfolding in_table table_at
    meant a b f = rw f

    pub table_yes : (r : Matches) → (eqb q 0 || eqb (a_at c t) q) ≡ true → MatchIs c n t name 0 r → MatchIs c n t name q r
    table_yes r f m = record { past = m.past; says = λ a b. ap only_of (meant a b f) ∙ m.says a b }

    not_meant : (a b : ℕ) → (eqb q 0 || eqb (a_at c t) q) ≡ false → in_table name q a b (table_at c n t) ≡ []
    unfolding in_table table_at
    not_meant a b f = rw f

    pub table_no : (eqb q 0 || eqb (a_at c t) q) ≡ false → MatchIs c n t name q N.None
    table_no f = no_match q (λ a b. not_meant a b f)

pub ruleset columns = (named_begin, named_done, named_stop, named_here, named_again, rules)
