-- Where the tables stand: the array of their records as the code fills it, what it says, and a table by its name over it.
-- Assumes nothing.
use Prim.Native.Nat.{ℕ, zero, suc, ◌+◌, ◌-◌, ◌<◌, ◌≤◌}
use mathlib.Core.Path.{◌≡◌, refl, sym, ap, ◌∙◌}
use mathlib.Core.Bool.{Bool, true, false, cond}
use mathlib.Core.List.{List, [], ◌∷◌, ◌++◌}
use native.Mathlib.Omega.{arith}
use native.Mathlib.Numerals.{add-one}
use borrow.Author.Rules.{rules}
use borrow.Author.Tests.{eq-eqb, ne_eqb, eqb-true}
use Rattle.std.specs.Prelude.{Option, Some, None, MatchOption}
use lib.Dec.{eqb}
use lib.ListN.{length, get_or, set, drop, replicate, drop_of_length-le}
use lib.Seq.{drop-cons, set_out, get_or-take, length-take-le}
use Rattle.word.specs.Buffer.{Wrote}
use Rattle.word.specs.Record.{kind_at, a_at}
use Rattle.word.proofs.Writing.{put_nil, put_one, Todo, todo_all, todo_same, todo_less, todo_none, kept}
use Rattle.cell.specs.Res.{Res, stuck, done}
use Rattle.catalogue.specs.Tables.{TabRef, table_at, tables_from, later, table_named}
use Rattle.catalogue.specs.Starts.{starts_from, starts_array, StartsAre, ref_of}

-- ---- the array, as the code fills it

module _ (c : List ℕ) where
  -- the first record's part, and the rest
  starts_step : (k i : ℕ) → starts_from c (suc k) i ≡ starts_from c 1 i ++ starts_from c k (i + 1)
  unfolding starts_from
  starts_step k i = go (starts_from c k (i + 1)) (eqb (kind_at c i) 1)
    where
      go : (rest : List ℕ) (b : Bool) → cond b (i ∷ rest) rest ≡ cond b (i ∷ []) [] ++ rest
      go rest true = refl
      go rest false = refl

  module _ (o : List ℕ) (t i k : ℕ) (e : k ≡ kind_at c i) where
    pub note_none : (k ≡ 1 → ⊥) → Wrote o t (starts_from c 1 i) o t
    unfolding starts_from
    note_none h = rw (← e, ne_eqb k 1 h) (record { now_is = sym (put_nil o t); next_is = omega arith })

    pub note_one : k ≡ 1 → Wrote o t (starts_from c 1 i) (set o t i) (t + 1)
    unfolding starts_from
    note_one h = rw (← e, eq-eqb k 1 h) (record { now_is = sym (put_one o t i); next_is = refl })

    pub note_full : k ≡ 1 → length o ≡ 32 → 32 ≤ t → Wrote o t (starts_from c 1 i) o (t + 1)
    unfolding starts_from
    note_full h l f = rw (← e, eq-eqb k 1 h) (record { now_is = sym (put_one o t i ∙ set_out o t i (omega arith)); next_is = refl })

  one_few : (i : ℕ) → length (starts_from c 1 i) ≤ 1
  unfolding starts_from
  one_few i = go (eqb (kind_at c i) 1)
    where
      go : (b : Bool) → length (cond b (i ∷ []) []) ≤ 1
      go true = omega arith
      go false = omega arith

  -- the array o, filled up to its place t with the tables among the first i of n records
  module _ (n : ℕ) where
    abbrev pub Filled : List ℕ → ℕ → ℕ → Type 0
    Filled o t i = Todo o t (starts_from c (n - i) i) (replicate 32 0) 0 (starts_from c n 0)

    pub filled_none : Filled (replicate 32 0) 0 0
    filled_none = let e : n - 0 ≡ n = omega arith in rw e (todo_all (replicate 32 0) 0 (starts_from c n 0))

    module _ (o : List ℕ) (t i : ℕ) where
      pub filled_more : (o' : List ℕ) (r : ℕ) → i < n → Wrote o t (starts_from c 1 i) o' r → Filled o t i → Filled o' r (i + 1)
      filled_more o' r h w f = let e : n - i ≡ suc (n - (i + 1)) = omega arith in todo_less w (todo_same (rw e (starts_step (n - (i + 1)) i)) f)

      pub filled_few : (o' : List ℕ) (r : ℕ) → Wrote o t (starts_from c 1 i) o' r → t ≤ i → r ≤ i + 1
      filled_few o' r w h = omega (arith, w.next_is, one_few i)

      pub filled_slots : (o' : List ℕ) (r : ℕ) → Wrote o t (starts_from c 1 i) o' r → length o ≡ 32 → length o' ≡ 32
      filled_slots o' r w h = kept w ∙ h

      -- one record further: a table's record in the array, one past it, another record
      pub filled_here : {o' : List ℕ} {t' : ℕ} → kind_at c i ≡ 1 → t < 32 → i < n → o' ≡ set o t i → t' ≡ t + 1 → (t ≤ i) × (length o ≡ 32) × Filled o t i → (t' ≤ i + 1) × (length o' ≡ 32) × Filled o' t' (i + 1)
      filled_here k h l e f (a, b, d) = rw (e, f) (omega arith, filled_slots _ _ (note_one o t i _ refl k) b, filled_more _ _ l (note_one o t i _ refl k) d)

      pub filled_out : {o' : List ℕ} {t' : ℕ} → kind_at c i ≡ 1 → 32 ≤ t → i < n → o' ≡ o → t' ≡ t + 1 → (t ≤ i) × (length o ≡ 32) × Filled o t i → (t' ≤ i + 1) × (length o' ≡ 32) × Filled o' t' (i + 1)
      filled_out k h l e f (a, b, d) = rw (e, f) (omega arith, b, filled_more _ _ l (note_full o t i _ refl k b h) d)

      pub filled_over : {o' : List ℕ} {t' : ℕ} → (kind_at c i ≡ 1 → ⊥) → i < n → o' ≡ o → t' ≡ t → (t ≤ i) × (length o ≡ 32) × Filled o t i → (t' ≤ i + 1) × (length o' ≡ 32) × Filled o' t' (i + 1)
      filled_over k l e f (a, b, d) = rw (e, f) (omega arith, b, filled_more _ _ l (note_none o t i _ refl k) d)

      pub filled_all : n ≤ i → Filled o t i → o ≡ starts_array c n
      unfolding starts_array starts_from
      filled_all h f = let e : n - i ≡ 0 = omega arith in (todo_none (rw e at f)).now_is

pub ruleset fills = (note_none, note_one, note_full, filled_none, filled_more, filled_few, filled_slots, filled_all, rules)

-- ---- what the array says

module _ (c : List ℕ) where
  pub starts_below : (k i j : ℕ) → j < length (starts_from c k i) → get_or (starts_from c k i) j 0 < i + k
  unfolding starts_from
  starts_below zero i j h = absurd (omega arith)
  starts_below (suc k) i j h = go (λ l g. omega (arith, starts_below k (i + 1) l g)) (eqb (kind_at c i) 1) j h
    where
      go : ((l : ℕ) → l < length (starts_from c k (i + 1)) → get_or (starts_from c k (i + 1)) l 0 < i + suc k)
          → (b : Bool) (j : ℕ) → j < length (cond b (i ∷ starts_from c k (i + 1)) (starts_from c k (i + 1)))
          → get_or (cond b (i ∷ starts_from c k (i + 1)) (starts_from c k (i + 1))) j 0 < i + suc k
      go less true zero h = omega arith
      go less true (suc j) h = less j (omega arith)
      go less false j h = less j h

  pub starts_kind : (k i j : ℕ) → j < length (starts_from c k i) → kind_at c (get_or (starts_from c k i) j 0) ≡ 1
  unfolding starts_from
  starts_kind zero i j h = absurd (omega arith)
  starts_kind (suc k) i j h = go (starts_kind k (i + 1)) (eqb (kind_at c i) 1) refl j h
    where
      go : ((l : ℕ) → l < length (starts_from c k (i + 1)) → kind_at c (get_or (starts_from c k (i + 1)) l 0) ≡ 1)
          → (b : Bool) → eqb (kind_at c i) 1 ≡ b → (j : ℕ) → j < length (cond b (i ∷ starts_from c k (i + 1)) (starts_from c k (i + 1)))
          → kind_at c (get_or (cond b (i ∷ starts_from c k (i + 1)) (starts_from c k (i + 1))) j 0) ≡ 1
      go more true e zero h = eqb-true (kind_at c i) 1 e
      go more true e (suc j) h = more j (omega arith)
      go more false e j h = more j h

module _ (c : List ℕ) (n tables : ℕ) (ss : List ℕ) (a : StartsAre c n tables ss) where
  pub starts_number : length (starts_from c n 0) ≡ tables
  starts_number = sym (ap length a.are) ∙ length-take-le tables ss (omega (arith, a.few, a.slots))

  module _ (j : ℕ) (h : j < tables) where
    pub start_is : get_or ss j 0 ≡ get_or (starts_from c n 0) j 0
    start_is = sym (get_or-take tables ss j 0 h) ∙ ap (λ l. get_or l j 0) a.are

    pub start_below : get_or ss j 0 < n
    start_below = rw start_is (omega (arith, starts_below c n 0 j (omega (arith, starts_number))))

    pub start_kind : kind_at c (get_or ss j 0) ≡ 1
    start_kind = rw start_is (starts_kind c n 0 j (omega (arith, starts_number)))

    pub start_fits : (r : ℕ) → r ≡ get_or ss j 0 → r < n
    start_fits r e = rw e start_below

-- ---- a table by its name

module _ (c : List ℕ) (n name : ℕ) where
  -- the table of the name among those of the records that are given, the first of them with the number j
  unfoldable pub named_in : ℕ → List ℕ → Res TabRef
  named_in j [] = stuck
  named_in j (i ∷ is) =
      let more = named_in (suc j) is in
      cond (eqb (a_at c i) name) (done (record { num = j; table = table_at c n i })) more

  named_later : (j : ℕ) (is : List ℕ) → later (named_in j is) ≡ named_in (suc j) is
  unfolding named_in later
  named_later j [] = refl
  named_later j (i ∷ is) = go (eqb (a_at c i) name) (named_later (suc j) is)
    where
      go : (b : Bool) → later (named_in (suc j) is) ≡ named_in (suc (suc j)) is
          → later (cond b (done (record { num = j; table = table_at c n i })) (named_in (suc j) is)) ≡ cond b (done (record { num = suc j; table = table_at c n i })) (named_in (suc (suc j)) is)
      go true e = unfold later in refl
      go false e = e

  named_from : (k i : ℕ) → table_named name (tables_from c n k i) ≡ named_in 0 (starts_from c k i)
  unfolding tables_from starts_from table_named named_in
  named_from zero i = refl
  named_from (suc k) i = go (named_from k (i + 1)) (eqb (kind_at c i) 1)
    where
      go : table_named name (tables_from c n k (i + 1)) ≡ named_in 0 (starts_from c k (i + 1)) → (b : Bool)
          → table_named name (cond b (table_at c n i ∷ tables_from c n k (i + 1)) (tables_from c n k (i + 1))) ≡ named_in 0 (cond b (i ∷ starts_from c k (i + 1)) (starts_from c k (i + 1)))
      go h true = unfold table_named named_in table_at in
          ap (cond (eqb (a_at c i) name) (done (record { num = 0; table = table_at c n i }))) (ap later h ∙ named_later 0 (starts_from c k (i + 1)))
      go h false = h

  pub find_begin : table_named name (tables_from c n n 0) ≡ named_in 0 (drop 0 (starts_from c n 0))
  find_begin = named_from n 0

  module _ (tables : ℕ) (ss : List ℕ) (a : StartsAre c n tables ss) {X : Res TabRef} (j : ℕ) (x : X ≡ named_in j (drop j (starts_from c n 0))) where
    find_step : j < tables → X ≡ cond (eqb (a_at c (get_or ss j 0)) name) (done (record { num = j; table = table_at c n (get_or ss j 0) })) (named_in (j + 1) (drop (j + 1) (starts_from c n 0)))
    unfolding named_in
    find_step h = x ∙ rw (add-one j, start_is c n tables ss a j h, drop-cons (starts_from c n 0) j 0 (omega (arith, starts_number c n tables ss a)))

    find_here : j < tables → a_at c (get_or ss j 0) ≡ name → X ≡ ref_of c n ss (Some j)
    unfolding ref_of
    find_here h z = find_step h ∙ rw (eq-eqb (a_at c (get_or ss j 0)) name z)

    find_again : j < tables → (a_at c (get_or ss j 0) ≡ name → ⊥) → X ≡ named_in (j + 1) (drop (j + 1) (starts_from c n 0))
    find_again h z = find_step h ∙ rw (ne_eqb (a_at c (get_or ss j 0)) name z)

    find_none : tables ≤ j → X ≡ ref_of c n ss None
    unfolding ref_of named_in
    find_none h =
        let l : length (starts_from c n 0) ≤ j = omega (arith, starts_number c n tables ss a) in
        x ∙ rw (drop_of_length-le (starts_from c n 0) l)

  -- the first table of the name, if none before it has the name; and none, if none has it
  module _ (tables : ℕ) (ss : List ℕ) (a : StartsAre c n tables ss) where
    find_from : (j : ℕ) → j ≤ tables → ((k : ℕ) → k < j → a_at c (get_or ss k 0) ≡ name → ⊥) → table_named name (tables_from c n n 0) ≡ named_in j (drop j (starts_from c n 0))
    find_from zero h u = find_begin
    find_from (suc j) h u =
        rw (← add-one j) (find_again tables ss a j (find_from j (omega arith) (λ k l. u k (omega arith))) (omega arith) (u j (omega arith)))

    pub find_first : (r : Option ℕ)
        → MatchOption r ((k : ℕ) → 0 ≤ k → k < tables → a_at c (get_or ss k 0) ≡ name → ⊥) (λ j. (0 ≤ j) × (j < tables) × (a_at c (get_or ss j 0) ≡ name) × ((k : ℕ) → 0 ≤ k → k < j → a_at c (get_or ss k 0) ≡ name → ⊥))
        → table_named name (tables_from c n n 0) ≡ ref_of c n ss r
    find_first None u = find_none tables ss a tables (find_from tables (omega arith) (λ k l. u k (omega arith) l)) (omega arith)
    find_first (Some j) (_, h, e, u) = find_here tables ss a j (find_from j (omega arith) (λ k l. u k (omega arith) l)) h e
