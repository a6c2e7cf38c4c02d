-- The writer of the data tree: one law for each place of its code. Its premises are what the code has found there.
-- An asks-law is what a call requires, a done-law what the function ensures. Assumes nothing.
use Prim.Native.Nat.{ℕ, ◌+◌, ◌-◌, ◌≤◌}
use mathlib.Core.Path.{◌≡◌, refl, sym, ap, ap₂, ◌∙◌}
use mathlib.Core.List.{List, [], ◌∷◌, ◌++◌}
use native.Mathlib.Omega.{arith}
use lib.ListN.{length, set}
use Rattle.word.specs.Buffer.{Wrote}
use Rattle.word.specs.Writer.{Writes}
use Rattle.word.specs.declared.writer.Writer.{Writer}
use Rattle.word.specs.Record.{Record, rec_bytes}
use Rattle.word.proofs.Writing.{writes_then}
use Rattle.word.specs.Refusal.{fine}
use Rattle.class.specs.Info.{join_i, choice_i}
use Rattle.class.specs.declared.Info.{Info}
use Rattle.class.specs.declared.Info.TheVariants.{Fixed}
use Rattle.cell.specs.Res.{or_else}
use Rattle.cell.specs.Types.{digits_of, binop_type}
use Rattle.cell.specs.declared.Type.{«Type» as Ty}
use Rattle.cell.specs.declared.Type.TheVariants as T
use Rattle.cell.specs.declared.Value.{Value}
use Rattle.catalogue.specs.Tables.{tables_from}
use Rattle.view.specs.Record.{node_at}
use Rattle.view.specs.Parse.{names_at}
use Rattle.view.specs.declared.Fold.{Fold}
use Rattle.view.specs.declared.Pick.{Pick}
use Rattle.view.specs.declared.Node.{Node}
use Rattle.view.specs.declared.Node.TheVariants.{Const, Binop, Not, If, Col, Classof, Let}
use Rattle.scope.specs.Scopes.{find}
use Rattle.scope.specs.Table.{open_of, scopes_of, infos_of, found_of}
use Rattle.scope.specs.Blocks.{tables_named}
use Rattle.scope.specs.Entry.{local_scope, opened_by, tables_in}
use Rattle.scope.specs.declared.Scope.{Scope}
use Rattle.scope.specs.declared.Found.{Found}
use Rattle.resolve.specs.Totals.{fold_type}
use Rattle.resolve.specs.Infos.{block_i}
use Rattle.resolve.specs.Steps.{refs_to}
use Rattle.resolve.specs.Claims.{or_no_table, Opening, block_node, Narrow, Tabled}
use Rattle.resolve.specs.declared.Asked.{Asked}
use Rattle.resolve.specs.declared.Asked.TheVariants as ask
use Rattle.resolve.specs.declared.Files.{Files}
use Rattle.tree.specs.Tree.{rec_of, encode, table_recs}
use Rattle.tree.specs.Trans.{nums}
use Rattle.tree.specs.Claims.{type_at, info_at, data_at, limb_at, next_at, Accepted, refs_at, IsConst, const_tree, col_tree, class_tree, found_type, found_info, row_info, conv_bytes, block_kind, block_op, block_rec}
use Rattle.tree.specs.Levels.{Fits}
use Rattle.tree.specs.declared.Part.{Part}
use Rattle.tree.proofs.Narrow.{narrow_type}
use Rattle.tree.proofs.Accepted.{LetIs, ExistsIs, SingleIs, const_is, const_type, col_is, classof_is, not_is, binop_is, if_is, let_is, block_is, exists_is, single_is}
use Rattle.tree.proofs.Parts.{found_info_lem, row_info_lem, info_as, const_info, not_info, binop_info, if_info, let_info, block_opening, exists_info, single_info}
use Rattle.tree.proofs.Writers.{kept_long, writes_as, fits_as, fits_front, fits_after, fits_tree, fits_behind, writes_last}
use Rattle.tree.proofs.Writing.{const_tree_lem, col_tree_lem, class_tree_lem, found_type_lem, tree_bytes, limb_bytes, not_bytes, binop_bytes, if_bytes, let_bytes, exists_bytes, single_bytes}

-- a constant's node, as the pass found it
pub const_node : (v : List ℕ) (at : ℕ) {nd : Node} {s : Ty} {x : Value} → nd ≡ node_at v at → nd ≡ Const s x → IsConst (node_at v at)
const_node v at {nd} {s} {x} e g = record { ty = s; value = x; is = sym e ∙ g }

module _ (c ss v : List ℕ) (f : Files) (t : List Scope) (deep d at : ℕ) (w : Accepted c ss v f t deep d at) where
  -- A LIMB under IF of type ty; own is its type
  module _ {o : Writer} (own ty : Ty) (i : own ≡ type_at c v f t deep d at) (r : Fits (encode (limb_at c v f t deep d at ty)) o) where
    limbed : encode (limb_at c v f t deep d at ty) ≡ conv_bytes own ty ++ encode (data_at c v f t deep d at)
    limbed = rw i (limb_bytes c ss v f t deep d at ty)

    pub conv_asks : Fits (conv_bytes own ty) o
    conv_asks = fits_front _ (fits_as limbed r)

    module _ {o₁ : Writer} (x : Writes (conv_bytes own ty) o o₁) where
      pub limb_asks : Accepted c ss v f t deep d at × Fits (encode (data_at c v f t deep d at)) o₁
      limb_asks = (w, fits_after x (fits_as limbed r))

      pub limb_done : {p : Part} {o₂ : Writer} → p.next ≡ next_at v f d at → Writes (encode (data_at c v f t deep d at)) o₁ o₂ → p.ty ≡ type_at c v f t deep d at
          → p.info ≡ info_at c v f t deep d at
          → (p.next ≡ next_at v f d at) × (Writes (encode (limb_at c v f t deep d at ty)) o o₂ × ((p.ty ≡ type_at c v f t deep d at) × (p.info ≡ info_at c v f t deep d at)))
      limb_done h y k l = (h, (writes_as (sym limbed) (writes_then x y), (k, l)))

  module _ (nd : Node) (e : nd ≡ node_at v at) {o : Writer} (r : Fits (encode (data_at c v f t deep d at)) o) where
    -- CONSTANTS
    module _ {s : Ty} {x : Value} (g : nd ≡ Const s x) where
      const_bytes : encode (const_tree (node_at v at)) ≡ encode (data_at c v f t deep d at)
      const_bytes = tree_bytes c ss v f t deep d at (const_tree_lem (sym e ∙ g) (const_is c ss v f t deep d at w nd e g).0)

      pub const_asks : IsConst (node_at v at) × Fits (encode (const_tree (node_at v at))) o
      const_asks = (const_node v at e g, fits_as (sym const_bytes) r)

      pub const_done : {o₁ : Writer} → Writes (encode (const_tree (node_at v at))) o o₁
          → (at + 1 ≡ next_at v f d at) × (Writes (encode (data_at c v f t deep d at)) o o₁ × ((s ≡ type_at c v f t deep d at) × (Fixed f.k ≡ info_at c v f t deep d at)))
      const_done y =
          let b = const_is c ss v f t deep d at w nd e g in
          (b.1, (writes_as const_bytes y, (const_type c ss v f t deep d at w nd e g, const_info c ss v f t deep d at b.0)))

    -- COL
    module _ {name q : ℕ} (g : nd ≡ Col name q) (h : Found) (i : h ≡ found_of (infos_of t deep) (find name q 0 (scopes_of c f.nc t deep))) where
      col_bytes : encode (col_tree h) ≡ encode (data_at c v f t deep d at)
      col_bytes = tree_bytes c ss v f t deep d at (col_tree_lem (infos_of t deep) (col_is c ss v f t deep d at w nd e g).0 i)

      pub col_asks : Fits (encode (col_tree h)) o
      col_asks = fits_as (sym col_bytes) r

      pub col_done : {o₁ : Writer} {s : Ty} {j : Info} → Writes (encode (col_tree h)) o o₁ → s ≡ found_type h → j ≡ found_info h
          → (at + 1 ≡ next_at v f d at) × (Writes (encode (data_at c v f t deep d at)) o o₁ × ((s ≡ type_at c v f t deep d at) × (j ≡ info_at c v f t deep d at)))
      col_done x k l =
          let b = col_is c ss v f t deep d at w nd e g in
          (b.1, (writes_as col_bytes x, (k ∙ found_type_lem (infos_of t deep) b.0 i, info_as c ss v f t deep d at (l ∙ found_info_lem f.k (infos_of t deep) b.0 i))))

    -- CLASSOF
    module _ {name q : ℕ} (g : nd ≡ Classof name q) (h : Found) (i : h ≡ found_of (infos_of t deep) (find name q 0 (scopes_of c f.nc t deep))) where
      class_bytes : encode (class_tree h) ≡ encode (data_at c v f t deep d at)
      class_bytes = tree_bytes c ss v f t deep d at (class_tree_lem (infos_of t deep) (classof_is c ss v f t deep d at w nd e g).0 i)

      pub class_asks : Fits (encode (class_tree h)) o
      class_asks = fits_as (sym class_bytes) r

      pub class_done : {o₁ : Writer} {j : Info} → Writes (encode (class_tree h)) o o₁ → j ≡ row_info h
          → (at + 1 ≡ next_at v f d at) × (Writes (encode (data_at c v f t deep d at)) o o₁ × ((T.Class ≡ type_at c v f t deep d at) × (j ≡ info_at c v f t deep d at)))
      class_done x l =
          let b = classof_is c ss v f t deep d at w nd e g in
          (b.1, (writes_as class_bytes x, (sym b.0.type_is, info_as c ss v f t deep d at (l ∙ row_info_lem f.k (infos_of t deep) b.0 i))))

    -- NOT
    module _ (g : nd ≡ Not) {o₁ : Writer} (x : Writes (rec_bytes 8 0 0 0 0) o o₁) where
      pub not_asks : Accepted c ss v f t deep (d - 1) (at + 1) × Fits (encode (data_at c v f t deep (d - 1) (at + 1))) o₁
      not_asks =
          let b = not_is c ss v f t deep d at w nd e g in
          (b.operand, fits_after x (fits_as (not_bytes c ss v f t deep d at b) r))

      pub not_done : {p : Part} {o₂ : Writer} → p.next ≡ next_at v f (d - 1) (at + 1) → Writes (encode (data_at c v f t deep (d - 1) (at + 1))) o₁ o₂
          → p.ty ≡ type_at c v f t deep (d - 1) (at + 1) → p.info ≡ info_at c v f t deep (d - 1) (at + 1)
          → (p.next ≡ next_at v f d at) × (Writes (encode (data_at c v f t deep d at)) o o₂ × ((p.ty ≡ type_at c v f t deep d at) × (p.info ≡ info_at c v f t deep d at)))
      not_done h y k l =
          let b = not_is c ss v f t deep d at w nd e g in
          (h ∙ b.next, (writes_as (sym (not_bytes c ss v f t deep d at b)) (writes_then x y), (k ∙ b.type_as, l ∙ not_info c ss v f t deep d at b)))

    -- BINOP: the operands after the place of its record, then the record
    module _ {op : ℕ} (g : nd ≡ Binop op) where
      pub left_asks : Accepted c ss v f t deep (d - 1) (at + 1) × Fits (encode (data_at c v f t deep (d - 1) (at + 1))) (record { out = o.out; at = o.at + 8 })
      left_asks =
          let b = binop_is c ss v f t deep d at w nd e op _ g refl in
          (b.left, fits_front _ (fits_behind _ _ _ _ _ (fits_as (binop_bytes c ss v f t deep d at op _ _ b refl) r)))

      module _ (l : Part) {o₁ : Writer} (h : l.next ≡ next_at v f (d - 1) (at + 1)) (y : Writes (encode (data_at c v f t deep (d - 1) (at + 1))) (record { out = o.out; at = o.at + 8 }) o₁) where
        pub right_asks : Accepted c ss v f t deep (d - 1) l.next × Fits (encode (data_at c v f t deep (d - 1) l.next)) o₁
        right_asks =
            let b = binop_is c ss v f t deep d at w nd e op l.next g h in
            (b.right, fits_after y (fits_behind _ _ _ _ _ (fits_as (binop_bytes c ss v f t deep d at op l.next _ b refl) r)))

        module _ (m : Part) {o₂ : Writer} (k : m.next ≡ next_at v f (d - 1) l.next) (z : Writes (encode (data_at c v f t deep (d - 1) l.next)) o₁ o₂) where
          pub binop_asks : o.at + 8 ≤ length o₂.out.now
          binop_asks = omega (arith, fits_tree _ r, kept_long y, kept_long z)

          pub binop_done : {ty : Ty} {info : Info} {p : ℕ} {o₃ : Writer} {a : ℕ} → l.ty ≡ type_at c v f t deep (d - 1) (at + 1) → m.ty ≡ type_at c v f t deep (d - 1) l.next
              → ty ≡ or_else T.Null (binop_type op l.ty m.ty) → p ≡ digits_of ty → Wrote o₂.out.now o.at (rec_bytes 7 op p 0 0) o₃.out.now a → o₃.out.ghost_name ≡ o₂.out.ghost_name → o₃.at ≡ o₂.at
              → l.info ≡ info_at c v f t deep (d - 1) (at + 1) → m.info ≡ info_at c v f t deep (d - 1) l.next → info ≡ join_i l.info m.info
              → (m.next ≡ next_at v f d at) × (Writes (encode (data_at c v f t deep d at)) o o₃ × ((ty ≡ type_at c v f t deep d at) × (info ≡ info_at c v f t deep d at)))
          binop_done {ty} {info} {p} i j n q x s₁ a₁ i₁ j₁ n₁ =
              let b = binop_is c ss v f t deep d at w nd e op l.next g h in
              let u : ty ≡ type_at c v f t deep d at = n ∙ ap (or_else T.Null) (ap₂ (binop_type op) i j ∙ b.rule) ∙ (unfold or_else in refl) in
              (k ∙ b.next, (writes_as (sym (binop_bytes c ss v f t deep d at op l.next p b (q ∙ ap digits_of u))) (writes_last _ _ _ _ _ (writes_then y z) x s₁ a₁), (u, n₁ ∙ ap₂ join_i i₁ j₁ ∙ binop_info c ss v f t deep d at op l.next b)))

    -- IF; ty is its type
    module _ (g : nd ≡ If) {ty : Ty} (i : ty ≡ type_at c v f t deep d at) {o₁ : Writer} (x : Writes (rec_bytes 9 0 0 0 0) o o₁) where
      narrow : Narrow ty
      narrow = rw i (narrow_type c ss v f t deep d at w)

      pub test_asks : Accepted c ss v f t deep (d - 1) (at + 1) × Fits (encode (data_at c v f t deep (d - 1) (at + 1))) o₁
      test_asks =
          let b = if_is c ss v f t deep d at w nd e _ _ g refl refl in
          (b.test, fits_front _ (fits_after x (fits_as (if_bytes c ss v f t deep d at _ _ ty b i) r)))

      module _ (l : Part) {o₂ : Writer} (h : l.next ≡ next_at v f (d - 1) (at + 1)) (y : Writes (encode (data_at c v f t deep (d - 1) (at + 1))) o₁ o₂) where
        pub yes_asks : Accepted c ss v f t deep (d - 1) l.next × (Narrow ty × Fits (encode (limb_at c v f t deep (d - 1) l.next ty)) o₂)
        yes_asks =
            let b = if_is c ss v f t deep d at w nd e l.next _ g h refl in
            (b.yes, (narrow, fits_front _ (fits_after y (fits_after x (fits_as (if_bytes c ss v f t deep d at l.next _ ty b i) r)))))

        module _ (m : Part) {o₃ : Writer} (k : m.next ≡ next_at v f (d - 1) l.next) (z : Writes (encode (limb_at c v f t deep (d - 1) l.next ty)) o₂ o₃) where
          pub no_asks : Accepted c ss v f t deep (d - 1) m.next × (Narrow ty × Fits (encode (limb_at c v f t deep (d - 1) m.next ty)) o₃)
          no_asks =
              let b = if_is c ss v f t deep d at w nd e l.next m.next g h k in
              (b.no, (narrow, fits_after z (fits_after y (fits_after x (fits_as (if_bytes c ss v f t deep d at l.next m.next ty b i) r)))))

          pub if_done : (n : Part) {o₄ : Writer} {choice info : Info} → n.next ≡ next_at v f (d - 1) m.next → Writes (encode (limb_at c v f t deep (d - 1) m.next ty)) o₃ o₄
              → l.info ≡ info_at c v f t deep (d - 1) (at + 1) → m.info ≡ info_at c v f t deep (d - 1) l.next → n.info ≡ info_at c v f t deep (d - 1) m.next
              → choice ≡ choice_i m.info n.info → info ≡ join_i l.info choice
              → (n.next ≡ next_at v f d at) × (Writes (encode (data_at c v f t deep d at)) o o₄ × ((ty ≡ type_at c v f t deep d at) × (info ≡ info_at c v f t deep d at)))
          if_done n j q i₁ j₁ k₁ h₁ n₁ =
              let b = if_is c ss v f t deep d at w nd e l.next m.next g h k in (
                j ∙ b.next,
                (
                  writes_as (sym (if_bytes c ss v f t deep d at l.next m.next ty b i)) (writes_then x (writes_then y (writes_then z q))),
                  (i, n₁ ∙ ap₂ join_i i₁ (h₁ ∙ ap₂ choice_i j₁ k₁) ∙ if_info c ss v f t deep d at l.next m.next b),
                ),
              )

    -- LET
    module _ {name : ℕ} (g : nd ≡ Let name) {o₁ : Writer} (x : Writes (rec_bytes 23 0 0 0 0) o o₁) where
      pub value_asks : Accepted c ss v f t deep (d - 1) (at + 1) × Fits (encode (data_at c v f t deep (d - 1) (at + 1))) o₁
      value_asks =
          let b = let_is c ss v f t deep d at w nd e name _ _ _ g refl refl refl in
          (b.value, fits_front _ (fits_after x (fits_as (let_bytes c ss v f t deep d at _ _ b) r)))

      -- s is the local's entry, u the table with it open
      module _ (l : Part) {o₂ : Writer} (h : l.next ≡ next_at v f (d - 1) (at + 1)) (y : Writes (encode (data_at c v f t deep (d - 1) (at + 1))) o₁ o₂)
          (k : l.ty ≡ type_at c v f t deep (d - 1) (at + 1)) (n : l.info ≡ info_at c v f t deep (d - 1) (at + 1))
          (s : Scope) (u : List Scope) (i : s ≡ local_scope name l.ty l.info) (j : u ≡ set t deep s) where
        let_way : LetIs c ss v f t u deep d at l.next
        let_way = let_is c ss v f t deep d at w nd e name l.next s u g h (i ∙ ap₂ (local_scope name) k n) j

        pub body_asks : Accepted c ss v f u (deep + 1) (d - 1) l.next × Fits (encode (data_at c v f u (deep + 1) (d - 1) l.next)) o₂
        body_asks = (let_way.body, fits_after y (fits_after x (fits_as (let_bytes c ss v f t deep d at u l.next let_way) r)))

        pub let_done : {m : Part} {o₃ : Writer} → m.next ≡ next_at v f (d - 1) l.next → Writes (encode (data_at c v f u (deep + 1) (d - 1) l.next)) o₂ o₃
            → m.ty ≡ type_at c v f u (deep + 1) (d - 1) l.next → m.info ≡ info_at c v f u (deep + 1) (d - 1) l.next
            → (m.next ≡ next_at v f d at) × (Writes (encode (data_at c v f t deep d at)) o o₃ × ((m.ty ≡ type_at c v f t deep d at) × (m.info ≡ info_at c v f t deep d at)))
        let_done p z q q₁ =
            (p ∙ let_way.next, (writes_as (sym (let_bytes c ss v f t deep d at u l.next let_way)) (writes_then x (writes_then y z)), (q ∙ let_way.type_as, q₁ ∙ let_info c ss v f t deep d at u l.next let_way)))

  -- A BLOCK: p is its entry, u the table with its scope open, r₀ its record
  module _ {o : Writer} (r : Fits (encode (data_at c v f t deep d at)) o) (asked : Asked) (count : ℕ) (g : node_at v at ≡ block_node asked count)
      (p : Scope) (i : fine p ≡ or_no_table (opened_by ss (tables_named (tables_from c f.nc f.nc 0) (names_at v (at + 1) count)))) (u : List Scope) (j : u ≡ set t deep p)
      {r₀ : Record} (n : r₀ ≡ block_rec asked count) {o₁ : Writer} (x₀ : Writes (rec_of r₀) o o₁) where
    x : Writes (rec_bytes (block_kind asked) (block_op asked) count 0 0) o o₁
    x = rw n at x₀

    exists_way : (y : Fold) → asked ≡ ask.Rows y → ExistsIs c ss v f t u deep d at count y p
    exists_way y e = exists_is c ss v f t deep d at w asked count g p i u j y e

    single_way : (y : Pick) (l : ℕ) → asked ≡ ask.Values y → l ≡ next_at v f (d - 1) (at + 1 + count) → SingleIs c ss v f t u deep d at count l y p
    single_way y l e h = single_is c ss v f t deep d at w asked count g p i u j y l e h

    pub block_asks : Opening c f.nc p
    block_asks = block_opening c ss v f t deep d at count p u (block_is c ss v f t deep d at w asked count g p i u j)

    pub tables_ask : Tabled c f.nc ss f.tables v (at + 1) count × Fits (table_recs (nums (refs_at c f.nc v (at + 1) count))) o₁
    tables_ask = ((block_is c ss v f t deep d at w asked count g p i u j).tabled, go asked refl)
      where
        go : (b : Asked) → asked ≡ b → Fits (table_recs (nums (refs_at c f.nc v (at + 1) count))) o₁
        go (ask.Rows s) e = fits_front _ (fits_after x (fits_as (exists_bytes c ss v f t deep d at asked count p u _ _ refl refl s e (exists_way s e)) r))
        go (ask.Values s) e = fits_front _ (fits_after x (fits_as (single_bytes c ss v f t deep d at asked count p u _ _ refl refl s _ e (single_way s _ e refl)) r))

    module _ {o₂ : Writer} (y : Writes (table_recs (nums (refs_at c f.nc v (at + 1) count))) o₁ o₂) where
      pub where_asks : Accepted c ss v f u (deep + 1) (d - 1) (at + 1 + count) × Fits (encode (data_at c v f u (deep + 1) (d - 1) (at + 1 + count))) o₂
      where_asks = ((block_is c ss v f t deep d at w asked count g p i u j).test, go asked refl)
        where
          go : (z : Asked) → asked ≡ z → Fits (encode (data_at c v f u (deep + 1) (d - 1) (at + 1 + count))) o₂
          go (ask.Rows s) e = fits_after y (fits_after x (fits_as (exists_bytes c ss v f t deep d at asked count p u _ _ refl refl s e (exists_way s e)) r))
          go (ask.Values s) e = fits_front _ (fits_after y (fits_after x (fits_as (single_bytes c ss v f t deep d at asked count p u _ _ refl refl s _ e (single_way s _ e refl)) r)))

      module _ (l : Part) {o₃ : Writer} (h : l.next ≡ next_at v f (d - 1) (at + 1 + count)) (z : Writes (encode (data_at c v f u (deep + 1) (d - 1) (at + 1 + count))) o₂ o₃) where
        pub exists_done : {s : Fold} {ty : Ty} {info : Info} → asked ≡ ask.Rows s → ty ≡ fold_type s
            → l.info ≡ info_at c v f u (deep + 1) (d - 1) (at + 1 + count) → info ≡ block_i (refs_to (tables_in (open_of c f.nc p))) (l.info ∷ [])
            → (l.next ≡ next_at v f d at) × (Writes (encode (data_at c v f t deep d at)) o o₃ × ((ty ≡ type_at c v f t deep d at) × (info ≡ info_at c v f t deep d at)))
        exists_done {s} e b₁ i₁ j₁ =
            let is = exists_way s e in (
              h ∙ is.next,
              (
                writes_as (sym (exists_bytes c ss v f t deep d at asked count p u _ _ refl refl s e is)) (writes_then x (writes_then y z)),
                (b₁ ∙ is.type_as, j₁ ∙ ap (λ (z₁ : Info). block_i (refs_to (tables_in (open_of c f.nc p))) (z₁ ∷ [])) i₁ ∙ exists_info c ss v f t deep d at count p u s is),
              ),
            )

        pub single_asks : {s : Pick} → asked ≡ ask.Values s → Accepted c ss v f u (deep + 1) (d - 1) l.next × Fits (encode (data_at c v f u (deep + 1) (d - 1) l.next)) o₃
        single_asks {s} e =
            let is = single_way s l.next e h in
            (is.value, fits_after z (fits_after y (fits_after x (fits_as (single_bytes c ss v f t deep d at asked count p u _ _ refl refl s l.next e is) r))))

        pub single_done : {s : Pick} {e : Part} {o₄ : Writer} {info : Info} → asked ≡ ask.Values s → e.next ≡ next_at v f (d - 1) l.next → Writes (encode (data_at c v f u (deep + 1) (d - 1) l.next)) o₃ o₄
            → e.ty ≡ type_at c v f u (deep + 1) (d - 1) l.next
            → l.info ≡ info_at c v f u (deep + 1) (d - 1) (at + 1 + count) → e.info ≡ info_at c v f u (deep + 1) (d - 1) l.next
            → info ≡ block_i (refs_to (tables_in (open_of c f.nc p))) (l.info ∷ choice_i e.info (Fixed 0) ∷ [])
            → (e.next ≡ next_at v f d at) × (Writes (encode (data_at c v f t deep d at)) o o₄ × ((e.ty ≡ type_at c v f t deep d at) × (info ≡ info_at c v f t deep d at)))
        single_done {s} b₁ k₁ y₁ n₁ i₁ j₁ h₁ =
            let is = single_way s l.next b₁ h in (
              k₁ ∙ is.next,
              (
                writes_as (sym (single_bytes c ss v f t deep d at asked count p u _ _ refl refl s l.next b₁ is)) (writes_then x (writes_then y (writes_then z y₁))),
                (
                  n₁ ∙ is.type_as,
                  h₁ ∙ ap₂ (λ (z₁ z₂ : Info). block_i (refs_to (tables_in (open_of c f.nc p))) (z₁ ∷ choice_i z₂ (Fixed 0) ∷ [])) i₁ j₁
                      ∙ single_info c ss v f t deep d at count p u s l.next is,
                ),
              ),
            )
