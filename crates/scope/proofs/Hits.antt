-- What the only match of a list of matches is, put together from parts.
-- Assumes nothing.
use Prim.Native.Nat.{ℕ, ◌+◌}
use mathlib.Core.Path.{◌≡◌, refl, sym, subst, ◌∙◌}
use mathlib.Core.Bool.{Bool, true, false, cond, ◌&&◌, ◌||◌}
use mathlib.Core.List.{List, [], ◌∷◌, ◌++◌}
use lib.Dec.{T as Holds, eqb}
use lib.ListN.{get_or}
use Rattle.class.specs.declared.Info.{Info}
use Rattle.class.specs.declared.Info.TheVariants.{Fixed}
use Rattle.catalogue.specs.Tables.{Table, Column}
use Rattle.scope.specs.Scopes.{Open, block, local, Hit, column, bound, Only, none, one, more, only_of, in_cols, in_table, in_tabs, in_scope}
use Rattle.scope.specs.Table.{found_of}
use Rattle.scope.specs.Match.{found_in, any_of}

-- THE ONLY MATCH of two lists: of neither, of one alone, of both
unfoldable pub both : Only Hit → Only Hit → Only Hit
both none y = y
both (one h) none = one h
both (one h) (one k) = more
both (one h) more = more
both more y = more

pub only_both : (xs ys : List Hit) → only_of (xs ++ ys) ≡ both (only_of xs) (only_of ys)
unfolding only_of both
only_both [] ys = refl
only_both (x ∷ []) [] = refl
only_both (x ∷ []) (y ∷ []) = refl
only_both (x ∷ []) (y ∷ (z ∷ zs)) = refl
only_both (x ∷ (y ∷ xs)) ys = refl

-- a match with what is left: there is one, and it is the only one if nothing is left
pub any_both : (h : Hit) (y : Only Hit) → any_of (both (one h) y) ≡ true
unfolding any_of both
any_both h none = refl
any_both h (one k) = refl
any_both h more = refl

pub both_alone : (h : Hit) (y : Only Hit) → any_of y ≡ false → both (one h) y ≡ one h
unfolding any_of both
both_alone h none e = refl
both_alone h (one k) e = absurd (subst Holds e tt)
both_alone h more e = absurd (subst Holds e tt)

pub both_two : (h : Hit) (y : Only Hit) → any_of y ≡ true → both (one h) y ≡ more
unfolding any_of both
both_two h none e = absurd (subst Holds (sym e) tt)
both_two h (one k) e = refl
both_two h more e = refl

-- the answer from all scopes' classes is that from the class of the scope where the matches stand
module _ (is : List Info) (name q a : ℕ) where
  abbrev Same : Info → List Hit → Type 0
  Same i xs = found_of is (only_of xs) ≡ found_in i (only_of xs)

  module _ (i : Info) where
    same_append : (xs ys : List Hit) → Same i xs → Same i ys → Same i (xs ++ ys)
    unfolding found_of found_in only_of
    same_append [] ys p r = r
    same_append (x ∷ []) [] p r = p
    same_append (x ∷ []) (y ∷ ys) p r = refl
    same_append (x ∷ (y ∷ xs)) ys p r = refl

    same_column : (b c : ℕ) (t : Table) (k : Column) (x : Bool) → Same i (cond x (column a b c t k ∷ []) [])
    unfolding found_of found_in only_of
    same_column b c t k true = refl
    same_column b c t k false = refl

    same_cols : (b c : ℕ) (t : Table) (ks : List Column) → Same i (in_cols name a b t c ks)
    unfolding in_cols
    same_cols b c t [] = unfold found_of found_in only_of in refl
    same_cols b c t (k ∷ ks) = same_append (cond (eqb k.cname name) (column a b c t k ∷ []) []) (in_cols name a b t (c + 1) ks) (same_column b c t k (eqb k.cname name)) (same_cols b (c + 1) t ks)

    same_table : (b : ℕ) (t : Table) → Same i (in_table name q a b t)
    unfolding in_table
    same_table b t = go (eqb q 0 || eqb t.tname q)
      where
        go : (x : Bool) → Same i (cond x (in_cols name a b t 0 t.cols) [])
        go true = same_cols b 0 t t.cols
        go false = unfold found_of found_in only_of in refl

    same_tabs : (b : ℕ) (ts : List Table) → Same i (in_tabs name q a b ts)
    unfolding in_tabs
    same_tabs b [] = unfold found_of found_in only_of in refl
    same_tabs b (t ∷ ts) = same_append (in_table name q a b t) (in_tabs name q a (b + 1) ts) (same_table b t) (same_tabs (b + 1) ts)

  pub same_scope : (o : Open) → found_of is (only_of (in_scope name q a o)) ≡ found_in (get_or is a (Fixed 0)) (only_of (in_scope name q a o))
  unfolding in_scope
  same_scope (block ts) = same_tabs (get_or is a (Fixed 0)) 0 ts
  same_scope (local m t) = go (eqb q 0 && eqb m name)
    where
      go : (x : Bool) → Same (get_or is a (Fixed 0)) (cond x (bound a t ∷ []) [])
      go true = unfold found_of found_in only_of in refl
      go false = unfold found_of found_in only_of in refl

-- a block has no local, so that any class will do
pub any_class : (i j : Info) (name q a b : ℕ) (ts : List Table) → found_in i (only_of (in_tabs name q a b ts)) ≡ found_in j (only_of (in_tabs name q a b ts))
any_class i j name q a b ts = sym (same_tabs [] name q a i b ts) ∙ same_tabs [] name q a j b ts
