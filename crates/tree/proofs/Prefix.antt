-- What is written in prefix order is read back; so a tree that fits is the only one with its bytes.
-- Assumes nothing.
use Prim.Native.Nat.{ℕ, zero, suc, ◌+◌, ◌*◌, ◌/◌, ◌%◌, ◌<◌, max}
use mathlib.Core.Path.{◌≡◌, refl, sym, ap, ◌∙◌}
use mathlib.Core.List.{List, [], ◌∷◌, ◌++◌, append_assoc}
use native.Mathlib.Omega.{arith}
use borrow.Author.Tests.{le-leb}
use lib.ListN.{length, length-append}
use Rattle.word.specs.Record.{rec_bytes}
use Rattle.cell.specs.Res.{Res, done, bind}
use Rattle.cell.specs.declared.Type.{«Type» as Ty}
use Rattle.cell.specs.declared.Type.TheVariants as T
use Rattle.cell.specs.declared.Value.{Value}
use Rattle.view.specs.Record.{rec, const_of, const_rec}
use Rattle.view.specs.declared.Fold.{Fold}
use Rattle.view.specs.declared.Fold.TheVariants as fold
use Rattle.view.specs.declared.Pick.{Pick}
use Rattle.view.specs.declared.Pick.TheVariants as pick
use Rattle.view.specs.declared.Node.TheVariants.{Const}
use Rattle.tree.specs.Tree.{Tree, tree_const, tree_binop, tree_not, tree_if, tree_exists, tree_value, tree_data, tree_cell_class, tree_row_class, tree_local, tree_local_class, tree_conv, tree_bind, tree_bind_class, tree_lub, tree_dom, tree_agg, table_recs, fold_kind, fold_op, pick_kind, encode}
use Rattle.tree.specs.Prefix.{Read, front, table_in, read_tables, Form, leaf, one, two, three, block, valued, const_form, form_of, read_form, decode, height, Fits}

-- a record at the front is read back
front_back : (k o x y z : ℕ) (rest : List ℕ) → front (rec_bytes k o x y z ++ rest) ≡ done (rec k o x y z, rest)
unfolding front rec_bytes
front_back k o x y z rest =
    let a : x % 256 + 256 * (x / 256) ≡ x = omega arith in
    let b : y % 256 + 256 * (y / 256) ≡ y = omega arith in
    let c : z % 256 + 256 * (z / 256) ≡ z = omega arith in
    rw (le-leb 8 (length (rec_bytes k o x y z ++ rest)) (simp length-append (omega arith)))
    (λ i. done (record { kind = k; op = o; a = a i; b = b i; c = c i }, rest))

tables_back : (ns rest : List ℕ) → read_tables (length ns) (table_recs ns ++ rest) ≡ done (ns, rest)
unfolding read_tables table_recs table_in bind
tables_back [] rest = refl
tables_back (n ∷ ns) rest = rw (append_assoc (rec_bytes 12 0 n 0 0) (table_recs ns) rest, front_back 12 0 n 0 0 (table_recs ns ++ rest), tables_back ns rest)

-- a constant's record says it
const_form_lem : (t : Ty) (v : Value) → const_of (const_rec t v) ≡ Const t v → form_of (const_rec t v) ≡ leaf (tree_const t v)
unfolding form_of const_rec const_form
const_form_lem T.Null v e = rw e
const_form_lem T.Boolean v e = rw e
const_form_lem (T.Fixed p s) v e = rw e
const_form_lem (T.Time f) v e = rw e
const_form_lem (T.Interval f) v e = rw e
const_form_lem T.Class v e = rw e

-- a block's record says what is asked of it
fold_form : (q : Fold) (n : ℕ) → form_of (rec (fold_kind q) (fold_op q) n 0 0) ≡ block n (tree_exists q)
unfolding form_of fold_kind fold_op
fold_form fold.Any n = refl
fold_form (fold.Count p) n = let i : (16 * p) / 16 ≡ p = omega arith in ap (λ (z : ℕ). block n (tree_exists (fold.Count z))) i

pick_form : (q : Pick) (n : ℕ) → form_of (rec (pick_kind q) 0 n 0 0) ≡ valued n (tree_value q)
unfolding form_of pick_kind
pick_form pick.Only n = refl
pick_form pick.Greatest n = refl
pick_form pick.Least n = refl

-- a record, then what it asks for
leaf_back : (d k o x y z : ℕ) (rest : List ℕ) → decode (suc d) (rec_bytes k o x y z ++ rest) ≡ read_form (decode d) (form_of (rec k o x y z)) rest
unfolding decode bind
leaf_back d k o x y z rest = rw (front_back k o x y z rest)

head_back : (d k o x y z : ℕ) (us rest : List ℕ) → decode (suc d) ((rec_bytes k o x y z ++ us) ++ rest) ≡ read_form (decode d) (form_of (rec k o x y z)) (us ++ rest)
head_back d k o x y z us rest = ap (decode (suc d)) (append_assoc (rec_bytes k o x y z) us rest) ∙ leaf_back d k o x y z (us ++ rest)

-- a reader that reads t back before anything
abbrev Back : Read Tree → Tree → Type 0
Back f t = (rest : List ℕ) → f (encode t ++ rest) ≡ done (t, rest)

module _ (f : Read Tree) where
  one_back : (g : Tree → Tree) (x : Tree) → Back f x → (rest : List ℕ) → read_form f (one g) (encode x ++ rest) ≡ done (g x, rest)
  unfolding read_form bind
  one_back g x h rest = rw (h rest)

  two_back : (g : Tree → Tree → Tree) (x y : Tree) → Back f x → Back f y → (rest : List ℕ) → read_form f (two g) ((encode x ++ encode y) ++ rest) ≡ done (g x y, rest)
  unfolding read_form bind
  two_back g x y h k rest = rw (append_assoc (encode x) (encode y) rest, h (encode y ++ rest), k rest)

  three_back : (g : Tree → Tree → Tree → Tree) (x y z : Tree) → Back f x → Back f y → Back f z → (rest : List ℕ)
      → read_form f (three g) ((encode x ++ (encode y ++ encode z)) ++ rest) ≡ done (g x y z, rest)
  unfolding read_form bind
  three_back g x y z h k l rest =
      rw (append_assoc (encode x) (encode y ++ encode z) rest, append_assoc (encode y) (encode z) rest, h (encode y ++ (encode z ++ rest)), k (encode z ++ rest), l rest)

  block_back : (g : List ℕ → Tree → Tree) (ns : List ℕ) (x : Tree) → Back f x → (rest : List ℕ)
      → read_form f (block (length ns) g) ((table_recs ns ++ encode x) ++ rest) ≡ done (g ns x, rest)
  unfolding read_form bind
  block_back g ns x h rest = rw (append_assoc (table_recs ns) (encode x) rest, tables_back ns (encode x ++ rest), h rest)

  valued_back : (g : List ℕ → Tree → Tree → Tree) (ns : List ℕ) (x y : Tree) → Back f x → Back f y → (rest : List ℕ)
      → read_form f (valued (length ns) g) ((table_recs ns ++ (encode x ++ encode y)) ++ rest) ≡ done (g ns x y, rest)
  unfolding read_form bind
  valued_back g ns x y h k rest =
      rw (append_assoc (table_recs ns) (encode x ++ encode y) rest, append_assoc (encode x) (encode y) rest, tables_back ns (encode x ++ (encode y ++ rest)), h (encode y ++ rest), k rest)

-- WHAT IS WRITTEN IS READ BACK
pub decode_back : (d : ℕ) (t : Tree) → Fits t → height t < d → (rest : List ℕ) → decode d (encode t ++ rest) ≡ done (t, rest)
unfolding encode Fits height form_of read_form
decode_back zero t f h rest = absurd (omega arith)
decode_back (suc d) (tree_const t v) f h rest =
    leaf_back d (const_rec t v).kind (const_rec t v).op (const_rec t v).a (const_rec t v).b (const_rec t v).c rest
    ∙ ap (λ (g : Form). read_form (decode d) g rest) (const_form_lem t v f)
decode_back (suc d) (tree_binop op p x y) (f, g) h rest =
    head_back d 7 op p 0 0 (encode x ++ encode y) rest
    ∙ two_back (decode d) (tree_binop op p) x y (decode_back d x f (omega arith)) (decode_back d y g (omega arith)) rest
decode_back (suc d) (tree_not x) f h rest = head_back d 8 0 0 0 0 (encode x) rest ∙ one_back (decode d) tree_not x (decode_back d x f (omega arith)) rest
decode_back (suc d) (tree_if c x y) (e, f, g) h rest =
    head_back d 9 0 0 0 0 (encode c ++ (encode x ++ encode y)) rest
    ∙ three_back (decode d) tree_if c x y (decode_back d c e (omega arith)) (decode_back d x f (omega arith)) (decode_back d y g (omega arith)) rest
decode_back (suc d) (tree_exists q ns w) f h rest =
    head_back d (fold_kind q) (fold_op q) (length ns) 0 0 (table_recs ns ++ encode w) rest
    ∙ ap (λ (z : Form). read_form (decode d) z ((table_recs ns ++ encode w) ++ rest)) (fold_form q (length ns))
    ∙ block_back (decode d) (tree_exists q) ns w (decode_back d w f (omega arith)) rest
decode_back (suc d) (tree_value q ns w v) (f, g) h rest =
    head_back d (pick_kind q) 0 (length ns) 0 0 (table_recs ns ++ (encode w ++ encode v)) rest
    ∙ ap (λ (z : Form). read_form (decode d) z ((table_recs ns ++ (encode w ++ encode v)) ++ rest)) (pick_form q (length ns))
    ∙ valued_back (decode d) (tree_value q) ns w v (decode_back d w f (omega arith)) (decode_back d v g (omega arith)) rest
decode_back (suc d) (tree_data a b c) f h rest = leaf_back d 17 0 a b c rest
decode_back (suc d) (tree_cell_class a b c) f h rest = leaf_back d 18 0 a b c rest
decode_back (suc d) (tree_row_class a b) f h rest = leaf_back d 19 0 a b 0 rest
decode_back (suc d) (tree_local a) f h rest = leaf_back d 20 0 a 0 0 rest
decode_back (suc d) (tree_local_class a) f h rest = leaf_back d 21 0 a 0 0 rest
decode_back (suc d) (tree_conv p s x) (l, f) h rest =
    let i : (16 * p + s) / 16 ≡ p = omega arith in
    let j : (16 * p + s) % 16 ≡ s = omega arith in
    head_back d 22 (16 * p + s) 0 0 0 (encode x) rest
    ∙ one_back (decode d) (tree_conv ((16 * p + s) / 16) ((16 * p + s) % 16)) x (decode_back d x f (omega arith)) rest
    ∙ (λ k. done (tree_conv (i k) (j k) x, rest))
decode_back (suc d) (tree_bind v b) (f, g) h rest =
    head_back d 23 0 0 0 0 (encode v ++ encode b) rest
    ∙ two_back (decode d) tree_bind v b (decode_back d v f (omega arith)) (decode_back d b g (omega arith)) rest
decode_back (suc d) (tree_bind_class c v b) (e, f, g) h rest =
    head_back d 24 0 0 0 0 (encode c ++ (encode v ++ encode b)) rest
    ∙ three_back (decode d) tree_bind_class c v b (decode_back d c e (omega arith)) (decode_back d v f (omega arith)) (decode_back d b g (omega arith)) rest
decode_back (suc d) (tree_lub x y) (f, g) h rest =
    head_back d 25 0 0 0 0 (encode x ++ encode y) rest
    ∙ two_back (decode d) tree_lub x y (decode_back d x f (omega arith)) (decode_back d y g (omega arith)) rest
decode_back (suc d) (tree_dom x y) (f, g) h rest =
    head_back d 26 0 0 0 0 (encode x ++ encode y) rest
    ∙ two_back (decode d) tree_dom x y (decode_back d x f (omega arith)) (decode_back d y g (omega arith)) rest
decode_back (suc d) (tree_agg ns x) f h rest =
    head_back d 27 0 (length ns) 0 0 (table_recs ns ++ encode x) rest ∙ block_back (decode d) tree_agg ns x (decode_back d x f (omega arith)) rest

-- so no two trees that fit have the same bytes, whatever follows them
pub encode_once : (t u : Tree) (xs ys : List ℕ) → Fits t → Fits u → encode t ++ xs ≡ encode u ++ ys → (t ≡ u) × (xs ≡ ys)
encode_once t u xs ys f g e =
    let d = suc (max (height t) (height u)) in
    let a = decode_back d t f (omega arith) xs in
    let b = decode_back d u g (omega arith) ys in
    let h : ◌≡◌ {A = Res (Tree × List ℕ)} (done (t, xs)) (done (u, ys)) = sym a ∙ ap (decode d) e ∙ b in
    let p : ◌≡◌ {A = Tree × List ℕ} (t, xs) (u, ys) = cc in
    (ap (λ (z : Tree × List ℕ). z.0) p, ap (λ (z : Tree × List ℕ). z.1) p)
