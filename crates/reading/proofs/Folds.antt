-- Blocks row by row: what the folds of EXISTS, COUNT, VALUE, MAX, MIN and AGG come to where no row is stuck, and that it is null or of the block's type.
-- Assumes nothing.
use Prim.Native.Nat.{ℕ, suc, ◌+◌}
use mathlib.Core.Path.{◌≡◌, refl, sym, ◌∙◌, ap}
use mathlib.Core.Bool.{Bool, true, false, cond, ◌||◌}
use mathlib.Core.List.{List, [], ◌∷◌, map, foldl}
use native.Mathlib.Omega.{arith}
use borrow.Author.Tests.{le-leb}
use lib.IntN.{pos}
use Rattle.class.specs.Class.{lub_of, lub_all, lub_from}
use Rattle.class.proofs.Laws.{lub_zero, from_all}
use Rattle.cell.specs.Res.{Res, done, bind, or_else}
use Rattle.cell.specs.Types.{in_rule, kind_of}
use Rattle.cell.specs.Values.{HasTy, ok_null, ok_truth, ok_fixed, ok_time, ok_interval, ok_class, is_null, kind_v, as_fixed, as_time, as_interval}
use Rattle.cell.specs.Apply.{order_n}
use Rattle.cell.specs.declared.Type.{«Type» as Ty}
use Rattle.cell.specs.declared.Value.{Value}
use Rattle.cell.specs.declared.Value.TheVariants as X
use Rattle.cell.proofs.Typing.{digits_facts, never}
use Rattle.cell.proofs.Sound.{fixed_fits, either}
use Rattle.store.specs.Rows.{Row, All}
use Rattle.view.specs.declared.Fold.{Fold}
use Rattle.view.specs.declared.Fold.TheVariants as fold
use Rattle.view.specs.declared.Pick.{Pick}
use Rattle.view.specs.declared.Pick.TheVariants as pick
use Rattle.resolve.specs.Totals.{fold_type, ordered_type, pick_type}
use Rattle.run.specs.Run.{exists_step, Kept, no, one, more, value_step, kept_value, count_step, ordered, better, best_step, fold_over, pick_over, agg_step}
use Rattle.reading.specs.Reading.{any_true, count_true, fold_value, keep, only_value, better_of, best_of, pick_value}
use Rattle.reading.proofs.Lists.{all_imp}

-- what is kept, from what is kept so far and the values of the rows that are kept further on
abbrev kept_from : Kept → List Value → Kept
kept_from k [] = k
kept_from no (v ∷ vs) = kept_from (one v) vs
kept_from (one u) (v ∷ vs) = more
kept_from more (v ∷ vs) = more

more_from : (vs : List Value) → kept_from more vs ≡ more
more_from [] = refl
more_from (v ∷ vs) = refl

only_kept : (vs : List Value) → kept_value (kept_from no vs) ≡ only_value vs
unfolding kept_value only_value
only_kept [] = refl
only_kept (v ∷ []) = refl
only_kept (v ∷ (w ∷ vs)) = refl

-- ---- the better of two values, for MAX and MIN

-- two values of one fixed, time or interval type can be compared
better_is : (op : ℕ) {t : Ty} {u v : Value} → in_rule t ≡ true → ordered_type t ≡ done t → HasTy t u → HasTy t v → better op u v ≡ done (better_of op u v)
unfolding better better_of ordered ordered_type kind_of in_rule is_null kind_v order_n as_fixed as_time as_interval bind or_else
better_is op r o h ok_null = refl
better_is op r o h ok_truth = never o
better_is op r o ok_null (ok_fixed {p = p} {s = s} k) = let (a, b, c, d) = digits_facts p s r in rw (le-leb s 4 c)
better_is op r o (ok_fixed {p = p} {s = s} h) (ok_fixed k) = let (a, b, c, d) = digits_facts p s r in rw (le-leb s 4 c)
better_is op r o ok_null (ok_time k) = refl
better_is op r o (ok_time h) (ok_time k) = refl
better_is op r o ok_null (ok_interval k) = refl
better_is op r o (ok_interval h) (ok_interval k) = refl
better_is op r o h (ok_class k) = never o

-- the better of two values of a type is of that type
better_typed : (op : ℕ) (t : Ty) {u v : Value} → HasTy t u → HasTy t v → HasTy t (better_of op u v)
unfolding better_of
better_typed op t {u} {v} h k = either t (is_null v) _ _ h (either t (is_null u) _ _ k (either t (or_else false (order_n op v u)) _ _ k h))

best_typed : (op : ℕ) (t : Ty) {u : Value} (vs : List Value) → HasTy t u → All (HasTy t) vs → HasTy t (best_of op u vs)
unfolding best_of
best_typed op t [] h ks = h
best_typed op t {u = u} (v ∷ vs) h ks = best_typed op t {u = better_of op u v} vs (better_typed op t h ks.0) ks.1

-- ---- the folds

module _ {A : Type 0} where
  exists_from : (f : A → Res Bool) (g : A → Bool) (xs : List A) → All (λ x. f x ≡ done (g x)) xs → (b : Bool) →
      foldl (λ acc x. exists_step acc (f x)) (done b) xs ≡ done (b || any_true (map g xs))
  unfolding exists_step any_true
  exists_from f g [] h true = refl
  exists_from f g [] h false = refl
  exists_from f g (x ∷ xs) h true = exists_from f g xs h.1 true
  exists_from f g (x ∷ xs) h false = rw h.0 (exists_from f g xs h.1 (g x))

  -- EXISTS is true if some row is kept
  exists_fold : (f : A → Res Bool) (g : A → Bool) (xs : List A) → All (λ x. f x ≡ done (g x)) xs →
      foldl (λ acc x. exists_step acc (f x)) (done false) xs ≡ done (any_true (map g xs))
  exists_fold f g xs h = exists_from f g xs h false

  count_from : (f : A → Res Bool) (g : A → Bool) (xs : List A) → All (λ x. f x ≡ done (g x)) xs → (n : ℕ) →
      foldl (λ acc x. count_step acc (f x)) (done n) xs ≡ done (n + count_true (map g xs))
  unfolding count_step count_true bind
  count_from f g [] h n = ap done (omega arith)
  count_from f g (x ∷ xs) h n = rw h.0 (go (g x) (count_from f g xs h.1))
    where
      go : (b : Bool) → ((m : ℕ) → foldl (λ acc x. count_step acc (f x)) (done m) xs ≡ done (m + count_true (map g xs))) →
          foldl (λ acc x. count_step acc (f x)) (done (cond b (suc n) n)) xs ≡ done (n + cond b (suc (count_true (map g xs))) (count_true (map g xs)))
      go true ih = ih (suc n) ∙ ap done (omega arith)
      go false ih = ih n

  -- COUNT is the number of rows that are kept
  count_fold : (f : A → Res Bool) (g : A → Bool) (xs : List A) → All (λ x. f x ≡ done (g x)) xs →
      foldl (λ acc x. count_step acc (f x)) (done 0) xs ≡ done (count_true (map g xs))
  count_fold f g xs h = count_from f g xs h 0 ∙ ap done (omega arith)

  more_stays : (f : A → Res Bool) (u : A → Res Value) (xs : List A) →
      foldl (λ acc x. value_step acc (f x) (u x)) (done more) xs ≡ done more
  unfolding value_step
  more_stays f u [] = refl
  more_stays f u (x ∷ xs) = more_stays f u xs

  value_from : (f : A → Res Bool) (u : A → Res Value) (g : A → Bool) (v : A → Value) (xs : List A) →
      All (λ x. f x ≡ done (g x)) xs → All (λ x. u x ≡ done (v x)) xs → (k : Kept) →
      foldl (λ acc x. value_step acc (f x) (u x)) (done k) xs ≡ done (kept_from k (map v (keep (map g xs) xs)))
  unfolding value_step bind keep
  value_from f u g v [] h l no = refl
  value_from f u g v [] h l (one w) = refl
  value_from f u g v [] h l more = refl
  value_from f u g v (x ∷ xs) h l no = rw (h.0, l.0) (go (g x) (value_from f u g v xs h.1 l.1))
    where
      go : (b : Bool) → ((k : Kept) → foldl (λ acc x. value_step acc (f x) (u x)) (done k) xs ≡ done (kept_from k (map v (keep (map g xs) xs)))) →
          foldl (λ acc x. value_step acc (f x) (u x)) (cond b (done (one (v x))) (done no)) xs ≡
          done (kept_from no (map v (cond b (x ∷ keep (map g xs) xs) (keep (map g xs) xs))))
      go true ih = ih (one (v x))
      go false ih = ih no
  value_from f u g v (x ∷ xs) h l (one w) = rw h.0 (go (g x) (value_from f u g v xs h.1 l.1))
    where
      go : (b : Bool) → ((k : Kept) → foldl (λ acc x. value_step acc (f x) (u x)) (done k) xs ≡ done (kept_from k (map v (keep (map g xs) xs)))) →
          foldl (λ acc x. value_step acc (f x) (u x)) (done (cond b more (one w))) xs ≡
          done (kept_from (one w) (map v (cond b (x ∷ keep (map g xs) xs) (keep (map g xs) xs))))
      go true ih = more_stays f u xs
      go false ih = ih (one w)
  value_from f u g v (x ∷ xs) h l more = more_stays f u xs ∙ ap done (sym (more_from (map v (keep (map g (x ∷ xs)) (x ∷ xs)))))

  -- VALUE is the value at the one row that is kept
  value_fold : (f : A → Res Bool) (u : A → Res Value) (g : A → Bool) (v : A → Value) (xs : List A) →
      All (λ x. f x ≡ done (g x)) xs → All (λ x. u x ≡ done (v x)) xs →
      bind (foldl (λ acc x. value_step acc (f x) (u x)) (done no) xs) (λ k. done (kept_value k)) ≡ done (only_value (map v (keep (map g xs) xs)))
  unfolding bind
  value_fold f u g v xs h l = rw (value_from f u g v xs h l no, only_kept (map v (keep (map g xs) xs)))

  best_from : (op : ℕ) (t : Ty) → in_rule t ≡ true → ordered_type t ≡ done t → (f : A → Res Bool) (u : A → Res Value) (g : A → Bool) (v : A → Value) (xs : List A) →
      All (λ x. f x ≡ done (g x)) xs → All (λ x. (u x ≡ done (v x)) × HasTy t (v x)) xs → (a : Value) → HasTy t a →
      foldl (λ acc x. best_step op acc (f x) (u x)) (done a) xs ≡ done (best_of op a (map v (keep (map g xs) xs)))
  unfolding best_step best_of bind keep
  best_from op t r o f u g v [] h l a k = refl
  best_from op t r o f u g v (x ∷ xs) h l a k =
      rw (h.0, l.0.0, better_is op r o k l.0.1) (go (g x) (best_from op t r o f u g v xs h.1 l.1))
    where
      go : (b : Bool) → ((c : Value) → HasTy t c → foldl (λ acc x. best_step op acc (f x) (u x)) (done c) xs ≡ done (best_of op c (map v (keep (map g xs) xs)))) →
          foldl (λ acc x. best_step op acc (f x) (u x)) (cond b (done (better_of op a (v x))) (done a)) xs ≡
          done (best_of op a (map v (cond b (x ∷ keep (map g xs) xs) (keep (map g xs) xs))))
      go true ih = ih (better_of op a (v x)) (better_typed op t k l.0.1)
      go false ih = ih a k

  -- MAX and MIN are the best of the kept rows' values
  best_fold : (op : ℕ) (t : Ty) → in_rule t ≡ true → ordered_type t ≡ done t → (f : A → Res Bool) (u : A → Res Value) (g : A → Bool) (v : A → Value) (xs : List A) →
      All (λ x. f x ≡ done (g x)) xs → All (λ x. (u x ≡ done (v x)) × HasTy t (v x)) xs →
      foldl (λ acc x. best_step op acc (f x) (u x)) (done X.Null) xs ≡ done (best_of op X.Null (map v (keep (map g xs) xs)))
  best_fold op t r o f u g v xs h l = best_from op t r o f u g v xs h l X.Null ok_null

  agg_from : (f : A → Res ℕ) (g : A → ℕ) (xs : List A) → All (λ x. f x ≡ done (g x)) xs → (c : ℕ) →
      foldl (λ acc x. agg_step acc (f x)) (done c) xs ≡ done (lub_from c (map g xs))
  unfolding agg_step bind
  agg_from f g [] h c = refl
  agg_from f g (x ∷ xs) h c = rw h.0 (agg_from f g xs h.1 (lub_of c (g x)))

  -- AGG is the lub over the rows
  pub agg_fold : (f : A → Res ℕ) (g : A → ℕ) (xs : List A) → All (λ x. f x ≡ done (g x)) xs →
      foldl (λ acc x. agg_step acc (f x)) (done 0) xs ≡ done (lub_all (map g xs))
  agg_fold f g xs h = agg_from f g xs h 0 ∙ ap done (from_all 0 (map g xs) ∙ lub_zero (lub_all (map g xs)))

-- ---- blocks, by what is asked of their rows

-- EXISTS and COUNT
pub fold_is : (q : Fold) (f : List Row → Res Bool) (g : List Row → Bool) (xs : List (List Row)) → All (λ x. f x ≡ done (g x)) xs →
    fold_over q f xs ≡ done (fold_value q (map g xs))
unfolding fold_over fold_value bind
fold_is fold.Any f g xs h = rw (exists_fold f g xs h)
fold_is (fold.Count p) f g xs h = rw (count_fold f g xs h)

pub fold_typed : (q : Fold) (bs : List Bool) → in_rule (fold_type q) ≡ true → HasTy (fold_type q) (fold_value q bs)
unfolding fold_type fold_value in_rule
fold_typed fold.Any bs r = ok_truth
fold_typed (fold.Count p) bs r = fixed_fits p 0 (pos (count_true bs)) r

-- VALUE, MAX and MIN, of a value of type t
pub pick_is : (q : Pick) (t : Ty) → in_rule t ≡ true → pick_type q t ≡ done t →
    (f : List Row → Res Bool) (u : List Row → Res Value) (g : List Row → Bool) (v : List Row → Value) (xs : List (List Row)) →
    All (λ x. f x ≡ done (g x)) xs → All (λ x. (u x ≡ done (v x)) × HasTy t (v x)) xs →
    pick_over q f u xs ≡ done (pick_value q (map v (keep (map g xs) xs)))
unfolding pick_over pick_value pick_type
pick_is pick.Only t r o f u g v xs h l = value_fold f u g v xs h (all_imp _ (λ x. u x ≡ done (v x)) (λ x k. k.0) xs l)
pick_is pick.Greatest t r o f u g v xs h l = best_fold 12 t r o f u g v xs h l
pick_is pick.Least t r o f u g v xs h l = best_fold 7 t r o f u g v xs h l

only_typed : (t : Ty) (vs : List Value) → All (HasTy t) vs → HasTy t (only_value vs)
unfolding only_value
only_typed t [] h = ok_null
only_typed t (v ∷ []) h = h.0
only_typed t (v ∷ (w ∷ vs)) h = ok_null

pub pick_typed : (q : Pick) (t : Ty) (vs : List Value) → All (HasTy t) vs → HasTy t (pick_value q vs)
unfolding pick_value
pick_typed pick.Only t vs h = only_typed t vs h
pick_typed pick.Greatest t vs h = best_typed 12 t vs ok_null h
pick_typed pick.Least t vs h = best_typed 7 t vs ok_null h
