-- Sizes that stop just above 8,190: what is known of an expression follows from what is known of its parts, one law for each kind.
-- Assumes nothing.
use Prim.Native.Nat.{ℕ, ◌+◌}
use mathlib.Core.Path.{◌≡◌, refl, sym, ap, ◌∙◌}
use mathlib.Core.Bool.{Bool, true, false, cond}
use mathlib.Core.List.{List, [], ◌∷◌, ◌++◌, map}
use native.Mathlib.Omega.{arith}
use lib.ListN.{length, get_or}
use Rattle.class.specs.Info.{bound_of, join_i, joins_i, choice_i}
use Rattle.class.specs.declared.Info.{Info}
use Rattle.class.specs.declared.Info.TheVariants.{Fixed, Bound}
use Rattle.cell.specs.Types.{digits_of, scale_of, same_type}
use Rattle.cell.specs.declared.Type.{«Type» as Ty}
use Rattle.cell.specs.declared.Type.TheVariants as T
use Rattle.cell.specs.declared.Value.{Value}
use Rattle.catalogue.specs.Tables.{TabRef}
use Rattle.view.specs.declared.Fold.{Fold}
use Rattle.view.specs.declared.Pick.{Pick}
use Rattle.resolve.specs.Expr.{Expr}
use Rattle.resolve.specs.Expr as expr
use Rattle.resolve.specs.Totals.{fold_type}
use Rattle.resolve.specs.Resolve.{brought}
use Rattle.resolve.specs.Infos.{table_class, join_all_i, block_i, class_info}
use Rattle.resolve.specs.Sizes.{size_d, sized_i, weighed, join_w, joins_w, join_all_w, choice_w, bind_size, let_w, rows_w, block_w, weigh, capped}
use Rattle.resolve.specs.Steps.{agg_w, class_of, known_by, leaf_k, two_k, not_k, brought_k, if_k, let_k, exists_k, single_k}
use Rattle.resolve.specs.Typed.{known_of}
use Rattle.resolve.specs.declared.Weighed.{Weighed}
use Rattle.resolve.specs.declared.Known.{Known}

abbrev info_of : Weighed → Info
info_of w = w.info

-- THE WEIGHED CLASS is what `class_info` says.
joins_info : (x : Weighed) (xs : List Weighed) → (joins_w x xs).info ≡ joins_i x.info (map info_of xs)
unfolding joins_w joins_i
joins_info x [] = refl
joins_info x (y ∷ ys) = joins_info (join_w x y) ys ∙ (unfold join_w in refl)

join_all_info : (xs : List Weighed) → (join_all_w xs).info ≡ join_all_i (map info_of xs)
unfolding join_all_w join_all_i
join_all_info [] = refl
join_all_info (x ∷ xs) = joins_info x xs

rows_info : (ts : List TabRef) (xs : List Weighed) → map info_of (rows_w ts ++ xs) ≡ map (λ t. t.table.row) ts ++ map info_of xs
unfolding rows_w
rows_info [] xs = refl
rows_info (t ∷ ts) xs = ap (λ (is : List Info). t.table.row ∷ is) (rows_info ts xs)

pub block_info : (ts : List TabRef) (xs : List Weighed) → (block_w ts xs).info ≡ block_i ts (map info_of xs)
unfolding block_w block_i join_w
block_info ts xs =
    ap (λ (i : Info). join_i (Bound (bound_of i)) (Fixed (table_class ts))) (join_all_info (rows_w ts ++ xs) ∙ ap join_all_i (rows_info ts xs))

pub weigh_info : (k : ℕ) (is : List Info) (x : Expr) → (weigh k is x).info ≡ class_info k is x
unfolding weigh class_info join_w choice_w let_w
weigh_info k is (expr.Expr.const t v) = refl
weigh_info k is (expr.Expr.col a b c i) = refl
weigh_info k is (expr.Expr.classof a b c i) = refl
weigh_info k is (expr.Expr.local a) = refl
weigh_info k is (expr.Expr.bin op p x y) = rw (weigh_info k is x, weigh_info k is y)
weigh_info k is (expr.Expr.neg x) = weigh_info k is x
weigh_info k is (expr.Expr.conv p s x) = weigh_info k is x
weigh_info k is (expr.Expr.if c x y) = rw (weigh_info k is c, weigh_info k is x, weigh_info k is y)
weigh_info k is (expr.Expr.letin x y) =
    weigh_info k ((weigh k is x).info ∷ is) y ∙ ap (λ (i : Info). class_info k (i ∷ is) y) (weigh_info k is x)
weigh_info k is (expr.Expr.exists f ts w) = block_info ts _ ∙ ap (λ (i : Info). block_i ts (i ∷ [])) (weigh_info k (Fixed 0 ∷ is) w)
weigh_info k is (expr.Expr.single g ts w v) =
    block_info ts _ ∙ ap (λ (i : Info). block_i ts (i ∷ choice_i (weigh k (Fixed 0 ∷ is) v).info (Fixed 0) ∷ [])) (weigh_info k (Fixed 0 ∷ is) w)
    ∙ ap (λ (i : Info). block_i ts (class_info k (Fixed 0 ∷ is) w ∷ choice_i i (Fixed 0) ∷ [])) (weigh_info k (Fixed 0 ∷ is) v)

-- SUMS THAT STOP.
pub plus_capped : (m m2 n n2 : ℕ) → capped m ≡ capped m2 → capped n ≡ capped n2 → capped (m + n) ≡ capped (m2 + n2)
plus_capped m m2 n n2 e f = omega arith

pub one_capped : (m m2 n n2 : ℕ) → capped m ≡ capped m2 → capped n ≡ capped n2 → capped (1 + (m + n)) ≡ capped (1 + (m2 + n2))
one_capped m m2 n n2 e f = omega arith

pub one_more : (m n : ℕ) → capped m ≡ capped n → capped (1 + m) ≡ capped (1 + n)
one_more m n e = omega arith

-- TWO WEIGHTS ALIKE: one information, one size where it stops.
pub record Alike (x y : Weighed) : Type 0 where
  pub info : x.info ≡ y.info
  pub size : capped x.size ≡ capped y.size

pub sized_alike : (i : Info) (m n : ℕ) → capped m ≡ capped n → capped (sized_i i m) ≡ capped (sized_i i n)
unfolding sized_i
sized_alike (Fixed k) m n e = refl
sized_alike (Bound b) m n e = e

pub weighed_alike : (i j : Info) (m n : ℕ) → i ≡ j → capped m ≡ capped n → Alike (weighed i m) (weighed j n)
weighed_alike i j m n e f = record { info = e; size = ap (λ (h : Info). capped (sized_i h m)) e ∙ sized_alike j m n f }

pub join_alike : (x x2 y y2 : Weighed) → Alike x x2 → Alike y y2 → Alike (join_w x y) (join_w x2 y2)
unfolding join_w
join_alike x x2 y y2 e f =
    weighed_alike (join_i x.info y.info) (join_i x2.info y2.info) (1 + (x.size + y.size)) (1 + (x2.size + y2.size))
    (ap (λ (i : Info). join_i i y.info) e.info ∙ ap (join_i x2.info) f.info)
    (one_capped x.size x2.size y.size y2.size e.size f.size)

pub choice_alike : (d d2 : ℕ) (x x2 y y2 : Weighed) → capped d ≡ capped d2 → Alike x x2 → Alike y y2 → Alike (choice_w d x y) (choice_w d2 x2 y2)
unfolding choice_w
choice_alike d d2 x x2 y y2 h e f =
    weighed_alike (choice_i x.info y.info) (choice_i x2.info y2.info) (1 + (d + (x.size + y.size))) (1 + (d2 + (x2.size + y2.size)))
    (ap (λ (i : Info). choice_i i y.info) e.info ∙ ap (choice_i x2.info) f.info)
    (one_capped d d2 (x.size + y.size) (x2.size + y2.size) h (plus_capped x.size x2.size y.size y2.size e.size f.size))

bind_alike : (i : Info) (m m2 d d2 n n2 : ℕ) → capped m ≡ capped m2 → capped d ≡ capped d2 → capped n ≡ capped n2
    → capped (bind_size i m d n) ≡ capped (bind_size i m2 d2 n2)
unfolding bind_size
bind_alike (Fixed a) m m2 d d2 n n2 e f g = one_capped d d2 n n2 f g
bind_alike (Bound b) m m2 d d2 n n2 e f g = one_capped m m2 (d + n) (d2 + n2) e (plus_capped d d2 n n2 f g)

pub let_alike : (d d2 : ℕ) (x x2 y y2 : Weighed) → capped d ≡ capped d2 → Alike x x2 → Alike y y2 → Alike (let_w d x y) (let_w d2 x2 y2)
unfolding let_w
let_alike d d2 x x2 y y2 h e f =
    weighed_alike y.info y2.info (bind_size x.info x.size d y.size) (bind_size x2.info x2.size d2 y2.size) f.info
    (ap (λ (i : Info). capped (bind_size i x.size d y.size)) e.info ∙ bind_alike x2.info x.size x2.size d d2 y.size y2.size e.size h f.size)

pub alike_refl : (x : Weighed) → Alike x x
alike_refl x = record { info = refl; size = refl }

pub alike_trans : (x y z : Weighed) → Alike x y → Alike y z → Alike x z
alike_trans x y z e f = record { info = e.info ∙ f.info; size = e.size ∙ f.size }

-- two lists of weights alike, one by one
pub data AllAlike : List Weighed → List Weighed → Type 0 where
  none : AllAlike [] []
  also : {x y : Weighed} {xs ys : List Weighed} → Alike x y → AllAlike xs ys → AllAlike (x ∷ xs) (y ∷ ys)

pub joins_alike : (x x2 : Weighed) {xs ys : List Weighed} → Alike x x2 → AllAlike xs ys → Alike (joins_w x xs) (joins_w x2 ys)
unfolding joins_w
joins_alike x x2 e none = e
joins_alike x x2 e (also {x = y} {y = z} f g) = joins_alike (join_w x y) (join_w x2 z) (join_alike x x2 y z e f) g

rows_also : (ts : List TabRef) {xs ys : List Weighed} → AllAlike xs ys → AllAlike (rows_w ts ++ xs) (rows_w ts ++ ys)
unfolding rows_w
rows_also [] f = f
rows_also (t ∷ ts) f = also (alike_refl _) (rows_also ts f)

pub all_refl : (xs : List Weighed) → AllAlike xs xs
all_refl [] = none
all_refl (x ∷ xs) = also (alike_refl x) (all_refl xs)

all_alike : {xs ys : List Weighed} → AllAlike xs ys → Alike (join_all_w xs) (join_all_w ys)
unfolding join_all_w
all_alike none = alike_refl _
all_alike (also {x = x} {y = y} e f) = joins_alike x y e f

pub agg_alike : (m k : ℕ) (x y : Weighed) → Alike x y → Alike (agg_w m k x) (agg_w m k y)
unfolding agg_w
agg_alike m k x y e =
    join_alike _ _ _ _
    (weighed_alike (Bound (bound_of x.info)) (Bound (bound_of y.info)) (1 + (m + x.size)) (1 + (m + y.size)) (ap (λ (i : Info). Bound (bound_of i)) e.info) (one_capped m m x.size y.size refl e.size))
    (alike_refl _)

block_alike : (ts : List TabRef) (xs ys : List Weighed) → AllAlike xs ys → Alike (block_w ts xs) (block_w ts ys)
unfolding block_w agg_w
block_alike ts xs ys f = agg_alike (length ts) (table_class ts) (join_all_w (rows_w ts ++ xs)) (join_all_w (rows_w ts ++ ys)) (all_alike (rows_also ts f))

-- WHAT IS KNOWN, by size and class.
pub known_alike : (t : Ty) (next m n : ℕ) (x y : Weighed) → capped m ≡ capped n → Alike x y → known_by t next m x ≡ known_by t next n y
unfolding known_by
known_alike t next m n x y e f = λ i. record { ty = t; info = f.info i; next = next; values = e i; classes = f.size i }

module _ (k : ℕ) (is : List Info) where
  pub known_by_lem : (next : ℕ) (x : Expr) (t : Ty) → known_of k is next x t ≡ known_by t next (size_d x) (weigh k is x)
  unfolding known_of known_by
  known_by_lem next x t = λ i. record { ty = t; info = sym (weigh_info k is x) i; next = next; values = capped (size_d x); classes = capped (weigh k is x).size }

  -- the data's size, and the class, of an expression and of what is known of it
  values_of : (next : ℕ) (x : Expr) (t : Ty) → capped (size_d x) ≡ capped (known_of k is next x t).values
  unfolding known_of
  values_of next x t = omega arith

  class_of_lem : (next : ℕ) (x : Expr) (t : Ty) → Alike (weigh k is x) (class_of (known_of k is next x t))
  unfolding known_of class_of
  class_of_lem next x t = record { info = weigh_info k is x; size = omega arith }

  -- ONE LAW FOR EACH KIND.
  pub const_known : (next : ℕ) (t : Ty) (v : Value) → known_of k is next (expr.Expr.const t v) t ≡ leaf_k t (Fixed k) next
  unfolding size_d weigh leaf_k
  const_known next t v = known_by_lem next (expr.Expr.const t v) t

  pub col_known : (next a b c : ℕ) (i : Info) (t : Ty) → known_of k is next (expr.Expr.col a b c i) t ≡ leaf_k t i next
  unfolding size_d weigh leaf_k
  col_known next a b c i t = known_by_lem next (expr.Expr.col a b c i) t

  pub classof_known : (next a b c : ℕ) (i : Info) (t : Ty) → known_of k is next (expr.Expr.classof a b c i) t ≡ leaf_k t i next
  unfolding size_d weigh leaf_k
  classof_known next a b c i t = known_by_lem next (expr.Expr.classof a b c i) t

  pub local_known : (next a : ℕ) (t : Ty) → known_of k is next (expr.Expr.local a) t ≡ leaf_k t (get_or is a (Fixed 0)) next
  unfolding size_d weigh leaf_k class_info
  local_known next a t = known_by_lem next (expr.Expr.local a) t

  pub bin_known : (m next op p : ℕ) (x y : Expr) (s u t : Ty)
      → known_of k is next (expr.Expr.bin op p x y) t ≡ two_k t (known_of k is m x s) (known_of k is next y u)
  unfolding size_d weigh two_k
  bin_known m next op p x y s u t =
      known_by_lem next (expr.Expr.bin op p x y) t
      ∙ known_alike t next (1 + (size_d x + size_d y)) _ (join_w (weigh k is x) (weigh k is y)) _
      (one_capped (size_d x) _ (size_d y) _ (values_of m x s) (values_of next y u))
      (join_alike _ _ _ _ (class_of_lem m x s) (class_of_lem next y u))
      ∙ (unfold known_of in refl)

  pub neg_known : (next : ℕ) (x : Expr) (s : Ty) → known_of k is next (expr.Expr.neg x) T.Boolean ≡ not_k (known_of k is next x s)
  unfolding size_d weigh not_k
  neg_known next x s =
      known_by_lem next (expr.Expr.neg x) T.Boolean
      ∙ known_alike T.Boolean next (1 + size_d x) _ (weigh k is x) _ (one_more (size_d x) _ (values_of next x s)) (class_of_lem next x s)
      ∙ (unfold known_of in refl)

  -- a limb that keeps its type, and one that gets CONV
  pub brought_known : (next : ℕ) (x : Expr) (s t : Ty) → known_of k is next (brought s t x) t ≡ brought_k t (known_of k is next x s)
  unfolding brought brought_k
  brought_known next x s t = go (same_type s t) ∙ (unfold known_of in refl)
    where
      h : Known
      h = known_of k is next x s

      go : (b : Bool) → known_of k is next (cond b x (expr.Expr.conv (digits_of t) (scale_of t) x)) t ≡ known_by t next (cond b h.values (1 + h.values)) (class_of h)
      go true =
          known_by_lem next x t ∙ known_alike t next (size_d x) _ (weigh k is x) _ (values_of next x s) (class_of_lem next x s)
      go false =
          known_by_lem next (expr.Expr.conv (digits_of t) (scale_of t) x) t
          ∙ (unfold size_d weigh in known_alike t next (1 + size_d x) _ (weigh k is x) _ (one_more (size_d x) _ (values_of next x s)) (class_of_lem next x s))

  pub if_known : (m l next : ℕ) (c x y : Expr) (s u w t : Ty)
      → known_of k is next (expr.Expr.if c x y) t ≡ if_k t (known_of k is m c s) (known_of k is l x u) (known_of k is next y w)
  unfolding size_d weigh if_k
  if_known m l next c x y s u w t =
      known_by_lem next (expr.Expr.if c x y) t
      ∙ known_alike t next (1 + (size_d c + (size_d x + size_d y))) _ (join_w (weigh k is c) (choice_w (size_d c) (weigh k is x) (weigh k is y))) _
      (one_capped (size_d c) _ (size_d x + size_d y) _ (values_of m c s) (plus_capped (size_d x) _ (size_d y) _ (values_of l x u) (values_of next y w)))
      (join_alike _ _ _ _ (class_of_lem m c s) (choice_alike (size_d c) _ _ _ _ _ (values_of m c s) (class_of_lem l x u) (class_of_lem next y w)))
      ∙ (unfold known_of in refl)

-- LET and blocks: the innermost scope is theirs.
module _ (k : ℕ) (is : List Info) where
  pub let_known : (m next : ℕ) (x y : Expr) (s t : Ty)
      → known_of k is next (expr.Expr.letin x y) t ≡ let_k (known_of k is m x s) (known_of k ((known_of k is m x s).info ∷ is) next y t)
  unfolding size_d weigh let_k
  let_known m next x y s t =
      known_by_lem k is next (expr.Expr.letin x y) t
      ∙ known_alike t next (1 + (size_d x + size_d y)) _ (let_w (size_d x) (weigh k is x) (weigh k ((weigh k is x).info ∷ is) y)) _
      (one_capped (size_d x) _ (size_d y) _ (values_of k is m x s) (values_of k ((known_of k is m x s).info ∷ is) next y t))
      (let_alike (size_d x) _ _ _ _ _ (values_of k is m x s) (class_of_lem k is m x s) body)
      ∙ (unfold known_of in refl)
    where
      same : (weigh k is x).info ≡ (known_of k is m x s).info
      same = weigh_info k is x ∙ (unfold known_of in refl)

      body : Alike (weigh k ((weigh k is x).info ∷ is) y) (class_of (known_of k ((known_of k is m x s).info ∷ is) next y t))
      body = rw same (class_of_lem k ((known_of k is m x s).info ∷ is) next y t)

  pub exists_known : (next : ℕ) (f : Fold) (ts : List TabRef) (w : Expr) (s : Ty)
      → known_of k is next (expr.Expr.exists f ts w) (fold_type f) ≡ exists_k f ts (known_of k (Fixed 0 ∷ is) next w s)
  unfolding size_d weigh exists_k
  exists_known next f ts w s =
      known_by_lem k is next (expr.Expr.exists f ts w) (fold_type f)
      ∙ known_alike (fold_type f) next (1 + (length ts + size_d w)) _ (block_w ts (weigh k (Fixed 0 ∷ is) w ∷ [])) _
      (one_capped (length ts) _ (size_d w) _ refl (values_of k (Fixed 0 ∷ is) next w s))
      (block_alike ts _ _ (also (class_of_lem k (Fixed 0 ∷ is) next w s) none))
      ∙ (unfold known_of in refl)

  pub single_known : (m next : ℕ) (g : Pick) (ts : List TabRef) (w v : Expr) (s u t : Ty)
      → known_of k is next (expr.Expr.single g ts w v) t ≡ single_k t ts (known_of k (Fixed 0 ∷ is) m w s) (known_of k (Fixed 0 ∷ is) next v u)
  unfolding size_d weigh single_k
  single_known m next g ts w v s u t =
      known_by_lem k is next (expr.Expr.single g ts w v) t
      ∙ known_alike t next (1 + (length ts + (size_d w + size_d v))) _
      (block_w ts (weigh k (Fixed 0 ∷ is) w ∷ choice_w (size_d w) (weigh k (Fixed 0 ∷ is) v) (weighed (Fixed 0) 1) ∷ [])) _
      (one_capped (length ts) _ (size_d w + size_d v) _ refl (plus_capped (size_d w) _ (size_d v) _ (values_of k (Fixed 0 ∷ is) m w s) (values_of k (Fixed 0 ∷ is) next v u)))
      (block_alike ts _ _
      (also (class_of_lem k (Fixed 0 ∷ is) m w s)
      (also (choice_alike (size_d w) _ _ _ _ _ (values_of k (Fixed 0 ∷ is) m w s) (class_of_lem k (Fixed 0 ∷ is) next v u) (alike_refl _))
      none)))
      ∙ (unfold known_of in refl)
