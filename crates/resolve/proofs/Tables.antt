-- A block's tables as the walk knows them: their rows' weights joined in order, and what is known of a block; one law for each place of the code.
-- Assumes nothing.
use Prim.Native.Nat.{ℕ, zero, suc, ◌+◌, ◌<◌, ◌≤◌, min}
use mathlib.Core.Path.{◌≡◌, refl, sym, ap, ap₂, ◌∙◌}
use mathlib.Core.List.{List, [], ◌∷◌, ◌++◌, map}
use native.Mathlib.Omega.{arith}
use native.Mathlib.Numerals.{add-one}
use borrow.Author.Rules.{rules}
use lib.ListN.{length, get_or, drop, drop_of_length-le}
use lib.Seq.{drop-cons}
use Rattle.class.specs.Class.{lub_all}
use Rattle.class.specs.Info.{bound_of, join_i, choice_i}
use Rattle.class.specs.declared.Info.{Info}
use Rattle.class.specs.declared.Info.TheVariants.{Fixed, Bound}
use Rattle.cell.specs.declared.Type.{«Type» as Ty}
use Rattle.catalogue.specs.Tables.{Table, TabRef}
use Rattle.view.specs.declared.Fold.{Fold}
use Rattle.view.specs.declared.Pick.{Pick}
use Rattle.scope.specs.Table.{tabs_at, open_of}
use Rattle.scope.specs.Entry.{count_in, tables_in, rows_of, classes_of}
use Rattle.scope.specs.declared.Scope.{Scope}
use Rattle.scope.proofs.Blocks.{tables_in_lem}
use Rattle.resolve.specs.Totals.{fold_type}
use Rattle.resolve.specs.Infos.{table_class, join_all_i, block_i}
use Rattle.resolve.specs.Sizes.{weighed, join_w, joins_w, join_all_w, choice_w, rows_w, block_w, capped}
use Rattle.resolve.specs.Steps.{class_of, stopped, known_by, agg_w, refs_to, exists_k, single_k, exists_t, single_t}
use Rattle.resolve.specs.Claims.{Opening}
use Rattle.resolve.specs.declared.Weighed.{Weighed}
use Rattle.resolve.specs.declared.Known.{Known}
use Rattle.resolve.proofs.Weights.{block_info, Alike, alike_refl, alike_trans, all_refl, joins_alike, weighed_alike, join_alike, choice_alike, agg_alike, known_alike}
use Rattle.resolve.proofs.Leaves.{stopped_alike, alike_stopped}

-- two weights whose stopped ones are equal
pub alike_both : (x y : Weighed) → stopped x ≡ stopped y → Alike x y
unfolding stopped
alike_both x y e = record { info = ap (λ (w : Weighed). w.info) e; size = ap (λ (w : Weighed). w.size) e }

-- the weights of the rows of these tables
abbrev weights : List Table → List Weighed
weights us = map (λ u. weighed u.row 1) us

rows_are : (us : List Table) → rows_w (refs_to us) ≡ weights us
unfolding rows_w refs_to
rows_are [] = refl
rows_are (u ∷ us) = ap (λ (ws : List Weighed). weighed u.row 1 ∷ ws) (rows_are us)

refs_length : (us : List Table) → length (refs_to us) ≡ length us
unfolding refs_to
refs_length [] = refl
refs_length (u ∷ us) = ap suc (refs_length us)

refs_class : (us : List Table) → table_class (refs_to us) ≡ lub_all (classes_of us)
unfolding refs_to
refs_class [] = refl
refs_class (u ∷ us) = rw (refs_class us)

-- NUMBERS DON'T MATTER to what is known.
rows_of_lem : (ts : List TabRef) → rows_w ts ≡ weights (map (λ t. t.table) ts)
unfolding rows_w
rows_of_lem [] = refl
rows_of_lem (t ∷ ts) = ap (λ (ws : List Weighed). weighed t.table.row 1 ∷ ws) (rows_of_lem ts)

length_of : (ts : List TabRef) → length ts ≡ length (map (λ t. t.table) ts)
length_of [] = refl
length_of (t ∷ ts) = ap suc (length_of ts)

class_of_lem : (ts : List TabRef) → table_class ts ≡ lub_all (classes_of (map (λ t. t.table) ts))
class_of_lem [] = refl
class_of_lem (t ∷ ts) = rw (class_of_lem ts)

infos_of : (ts : List TabRef) → map (λ t. t.table.row) ts ≡ map (λ t. t.table.row) (refs_to (map (λ t. t.table) ts))
unfolding refs_to
infos_of [] = refl
infos_of (t ∷ ts) = ap (λ (is : List Info). t.table.row ∷ is) (infos_of ts)

module _ (ts : List TabRef) where
  own_rows : rows_w ts ≡ rows_w (refs_to (map (λ t. t.table) ts))
  own_rows = rows_of_lem ts ∙ sym (rows_are (map (λ t. t.table) ts))

  own_length : length ts ≡ length (refs_to (map (λ t. t.table) ts))
  own_length = length_of ts ∙ sym (refs_length (map (λ t. t.table) ts))

  own_class : table_class ts ≡ table_class (refs_to (map (λ t. t.table) ts))
  own_class = class_of_lem ts ∙ sym (refs_class (map (λ t. t.table) ts))

  own_block : (xs : List Weighed) → block_w ts xs ≡ block_w (refs_to (map (λ t. t.table) ts)) xs
  unfolding block_w
  own_block xs = rw (own_rows, own_length, own_class)

  pub own_info : (is : List Info) → block_i ts is ≡ block_i (refs_to (map (λ t. t.table) ts)) is
  unfolding block_i
  own_info is = ap₂ (λ (rows : List Info) (k : ℕ). join_i (Bound (bound_of (join_all_i (rows ++ is)))) (Fixed k)) (infos_of ts) own_class

  pub own_exists : (at : ℕ) (f : Fold) (x : Known) → exists_t at f ts x ≡ exists_t at f (refs_to (map (λ t. t.table) ts)) x
  unfolding exists_t exists_k
  own_exists at f x = rw (own_block (class_of x ∷ []), own_length)

  pub own_single : (at : ℕ) (g : Pick) (x y : Known) → single_t at g ts x y ≡ single_t at g (refs_to (map (λ t. t.table) ts)) x y
  unfolding single_t single_k
  own_single at g x y = rw (own_block (class_of x ∷ choice_w x.values (class_of y) (weighed (Fixed 0) 1) ∷ []), own_length)

-- THE ROWS, joined from the left.
joins_append : (w : Weighed) (ws xs : List Weighed) → joins_w w (ws ++ xs) ≡ joins_w (joins_w w ws) xs
unfolding joins_w
joins_append w [] xs = refl
joins_append w (y ∷ ys) xs = joins_append (join_w w y) ys xs

join_all_append : (ws xs : List Weighed) → 1 ≤ length ws → join_all_w (ws ++ xs) ≡ joins_w (join_all_w ws) xs
unfolding join_all_w
join_all_append [] xs h = absurd (omega arith)
join_all_append (w ∷ ws) xs h = joins_append w ws xs

tabs_length : (c : List ℕ) (n : ℕ) (s : Scope) (i k : ℕ) → length (tabs_at c n s i k) ≡ k
unfolding tabs_at
tabs_length c n s i zero = refl
tabs_length c n s i (suc k) = ap suc (tabs_length c n s (i + 1) k)

weights_length : (us : List Table) → length (weights us) ≡ length us
weights_length [] = refl
weights_length (u ∷ us) = ap suc (weights_length us)

weight_at : (us : List Table) (j : ℕ) → get_or (weights us) j (weighed (Fixed 0) 1) ≡ weighed (get_or (rows_of us) j (Fixed 0)) 1
weight_at [] j = refl
weight_at (u ∷ us) zero = refl
weight_at (u ∷ us) (suc j) = weight_at us j

begin_at : (us : List Table) (w : Weighed) → Alike w (weighed (get_or (rows_of us) 0 (Fixed 0)) 1) → Alike (joins_w w (drop 1 (weights us))) (join_all_w (weights us))
unfolding joins_w join_all_w
begin_at [] w e = e
begin_at (u ∷ us) w e = joins_alike w (weighed u.row 1) e (all_refl (weights us))

-- what is joined so far, and the rows from table j on, come to all
pub record Joined (us : List Table) (w : Weighed) (j : ℕ) : Type 0 where
  pub is : stopped (joins_w w (drop j (weights us))) ≡ stopped (join_all_w (rows_w (refs_to us)))

module _ (c : List ℕ) (n : ℕ) (s : Scope) where
  abbrev us : List Table
  us = tables_in (open_of c n s)

  pub number_of : (m : ℕ) → (m ≡ min (count_in s) 4) × (m ≤ 4) → m ≡ length (tables_in (open_of c n s))
  number_of m l = l.0 ∙ sym (ap length (tables_in_lem c n s) ∙ tabs_length c n s 0 (min (count_in s) 4))

  pub rows_begin : (i : Info) (w : Weighed) → i ≡ get_or (rows_of (tables_in (open_of c n s))) 0 (Fixed 0) → w ≡ stopped (weighed i 1) → Joined (tables_in (open_of c n s)) w 1
  rows_begin i w e f =
      record { is = stopped_alike _ _ (begin_at us w (rw e at (alike_stopped w (weighed i 1) f))) ∙ ap (λ (ws : List Weighed). stopped (join_all_w ws)) (sym (rows_are us)) }

  pub rows_again : (m j : ℕ) (i : Info) (w x y : Weighed) → (m ≡ min (count_in s) 4) × (m ≤ 4) → j < m → Joined (tables_in (open_of c n s)) w j
      → i ≡ get_or (rows_of (tables_in (open_of c n s))) j (Fixed 0) → x ≡ stopped (weighed i 1) → y ≡ stopped (join_w w x) → Joined (tables_in (open_of c n s)) y (j + 1)
  unfolding joins_w
  rows_again m j i w x y l h e f g k =
      let z : j < length (weights us) = omega (arith, number_of m l, weights_length us) in
      let a : Alike x (get_or (weights us) j (weighed (Fixed 0) 1)) = rw (weight_at us j, ← f) (alike_stopped x (weighed i 1) g) in
      let b : Alike y (join_w w (get_or (weights us) j (weighed (Fixed 0) 1))) = alike_trans y (join_w w x) _ (alike_stopped y _ k) (join_alike w w x _ (alike_refl w) a) in
      record { is = rw (add-one j) (stopped_alike _ _ (joins_alike y _ b (all_refl (drop (suc j) (weights us)))) ∙ (rw (drop-cons (weights us) j (weighed (Fixed 0) 1) z) at e.is)) }

  pub rows_done : (m j : ℕ) (w : Weighed) → (m ≡ min (count_in s) 4) × (m ≤ 4) → m ≤ j → Joined (tables_in (open_of c n s)) w j
      → stopped w ≡ stopped (join_all_w (rows_w (refs_to (tables_in (open_of c n s)))))
  unfolding joins_w
  rows_done m j w l h e =
      let z : length (weights us) ≤ j = omega (arith, number_of m l, weights_length us) in
      rw (drop_of_length-le (weights us) z) at e.is

-- AGG, and what is known of a block.
pub agg_is : (m k b p q : ℕ) (w i j r : Weighed) → b ≡ bound_of w.info → p ≡ capped (m + w.size) → q ≡ capped (1 + p)
    → i ≡ stopped (weighed (Bound b) q) → j ≡ stopped (weighed (Fixed k) 1) → r ≡ stopped (join_w i j) → r ≡ stopped (agg_w m k w)
unfolding agg_w
agg_is m k b p q w i j r e f g x y z =
    z ∙ stopped_alike (join_w i j) _
    (join_alike i _ j _
    (alike_trans i (weighed (Bound b) q) _ (alike_stopped i _ x) (weighed_alike (Bound b) (Bound (bound_of w.info)) q (1 + (m + w.size)) (ap Bound e) (omega arith)))
    (alike_stopped j _ y))

module _ (c : List ℕ) (n : ℕ) (s : Scope) (o : Opening c n s) (m k : ℕ) (l : (m ≡ min (count_in s) 4) × (m ≤ 4))
    (a : k ≡ lub_all (classes_of (tables_in (open_of c n s)))) (q : Weighed) (b : stopped q ≡ stopped (join_all_w (rows_w (refs_to (tables_in (open_of c n s)))))) where
  abbrev refs : List TabRef
  refs = refs_to (tables_in (open_of c n s))

  m_is : m ≡ length (refs_to (tables_in (open_of c n s)))
  m_is = number_of c n s m l ∙ sym (refs_length (tables_in (open_of c n s)))

  k_is : k ≡ table_class (refs_to (tables_in (open_of c n s)))
  k_is = a ∙ sym (refs_class (tables_in (open_of c n s)))

  some_rows : 1 ≤ length (rows_w (refs_to (tables_in (open_of c n s))))
  some_rows = rw (rows_are (tables_in (open_of c n s)), weights_length (tables_in (open_of c n s)), ← number_of c n s m l) (omega arith)

  -- a row's weight is alike: so is the block's
  block_is : (xs : List Weighed) (row w : Weighed) → Alike row (joins_w q xs) → w ≡ stopped (agg_w m k row) → Alike w (block_w (refs_to (tables_in (open_of c n s))) xs)
  unfolding block_w agg_w
  block_is xs row w e f =
      rw (← m_is, ← k_is, join_all_append (rows_w refs) xs some_rows)
      (alike_trans w (agg_w m k row) _ (alike_stopped w _ f)
      (agg_alike m k row _ (alike_trans row (joins_w q xs) _ e (joins_alike q _ (alike_both q _ b) (all_refl xs)))))

  pub exists_is : (f : Fold) (t : Ty) (x : Known) (p row w : Weighed) (g h : ℕ) (r : Known) → t ≡ fold_type f → p ≡ class_of x → row ≡ stopped (join_w q p) → w ≡ stopped (agg_w m k row)
      → g ≡ capped (m + x.values) → h ≡ capped (1 + g) → r ≡ known_by t x.next h w → r ≡ exists_k f (refs_to (tables_in (open_of c n s))) x
  unfolding exists_k
  exists_is f t x p row w g h r v e u i j d z =
      z ∙ ap (λ (y : Ty). known_by y x.next h w) v
      ∙ known_alike (fold_type f) x.next h (1 + (length refs + x.values)) w _ (omega (arith, m_is))
      (block_is (class_of x ∷ []) row w (unfold joins_w in rw (← e) (alike_stopped row _ u)) i)

  pub single_is : (t : Ty) (x y : Known) (row w : Weighed) (g h i : ℕ) (r : Known)
      → row ≡ stopped (joins_w q (class_of x ∷ choice_w x.values (class_of y) (weighed (Fixed 0) 1) ∷ [])) → w ≡ stopped (agg_w m k row)
      → g ≡ capped (x.values + y.values) → h ≡ capped (m + g) → i ≡ capped (1 + h) → r ≡ known_by t y.next i w
      → r ≡ single_k t (refs_to (tables_in (open_of c n s))) x y
  unfolding single_k
  single_is t x y row w g h i r e f a1 a2 a3 z =
      z ∙ known_alike t y.next i (1 + (length refs + (x.values + y.values))) w _ (omega (arith, m_is))
      (block_is (class_of x ∷ choice_w x.values (class_of y) (weighed (Fixed 0) 1) ∷ []) row w (alike_stopped row _ e) f)

-- WHAT IS KNOWN OF A BLOCK'S CLASS, without sizes.
pub agg_info_is : (row : Info) (b k : ℕ) (r : Info) → b ≡ bound_of row → r ≡ join_i (Bound b) (Fixed k) → r ≡ join_i (Bound (bound_of row)) (Fixed k)
agg_info_is row b k r e f = f ∙ ap (λ (z : ℕ). join_i (Bound z) (Fixed k)) e

module _ (c : List ℕ) (n : ℕ) (s : Scope) (o : Opening c n s) (k : ℕ) (a : k ≡ lub_all (classes_of (tables_in (open_of c n s))))
    (q : Weighed) (b : stopped q ≡ stopped (join_all_w (rows_w (refs_to (tables_in (open_of c n s)))))) where
  info_by : (xs : List Weighed) → join_i (Bound (bound_of (joins_w q xs).info)) (Fixed k) ≡ block_i (refs_to (tables_in (open_of c n s))) (map (λ w. w.info) xs)
  unfolding stopped agg_w join_w
  info_by xs =
      (block_is c n s o (min (count_in s) 4) k (refl, omega arith) a q b xs (joins_w q xs) (stopped (agg_w (min (count_in s) 4) k (joins_w q xs))) (alike_refl _) refl).info
      ∙ block_info (refs_to (tables_in (open_of c n s))) xs

  pub exists_info_is : (x row r : Info) → row ≡ join_i q.info x → r ≡ join_i (Bound (bound_of row)) (Fixed k) → r ≡ block_i (refs_to (tables_in (open_of c n s))) (x ∷ [])
  unfolding joins_w join_w
  exists_info_is x row r e f = f ∙ ap (λ (i : Info). join_i (Bound (bound_of i)) (Fixed k)) e ∙ info_by (weighed x 1 ∷ [])

  pub single_info_is : (x y choice part row r : Info) → choice ≡ choice_i y (Fixed 0) → part ≡ join_i q.info x → row ≡ join_i part choice → r ≡ join_i (Bound (bound_of row)) (Fixed k)
      → r ≡ block_i (refs_to (tables_in (open_of c n s))) (x ∷ choice_i y (Fixed 0) ∷ [])
  unfolding joins_w join_w
  single_info_is x y choice part row r d e g f =
      f ∙ ap (λ (i : Info). join_i (Bound (bound_of i)) (Fixed k)) (g ∙ ap₂ join_i e d) ∙ info_by (weighed x 1 ∷ weighed (choice_i y (Fixed 0)) 1 ∷ [])

-- what VALUE, MAX and MIN read at one row
pub row_is : (q p u none choice part r : Weighed) (x y : Known) → none ≡ stopped (weighed (Fixed 0) 1) → u ≡ class_of y → choice ≡ stopped (choice_w x.values u none)
    → p ≡ class_of x → part ≡ stopped (join_w q p) → r ≡ stopped (join_w part choice)
    → r ≡ stopped (joins_w q (class_of x ∷ choice_w x.values (class_of y) (weighed (Fixed 0) 1) ∷ []))
unfolding joins_w
row_is q p u none choice part r x y a b d e f g =
    g ∙ stopped_alike (join_w part choice) _
    (join_alike part _ choice _ (rw (← e) (alike_stopped part _ f))
    (alike_trans choice (choice_w x.values u none) _ (alike_stopped choice _ d) (choice_alike x.values x.values u _ none _ refl (rw b (alike_refl _)) (alike_stopped none _ a))))

pub ruleset rowed = (rows_begin, rows_again, rows_done, agg_is, row_is, rules)

pub ruleset informed = (agg_info_is, exists_info_is, single_info_is, rules)

pub ruleset blocked = (exists_is, single_is, rules)
