-- The walk's notes of a block: its own, its tables' numbers, those of its where and of its value. Premises are what the code has found there.
-- Assumes nothing.
use Prim.Native.Nat.{ℕ, ◌+◌, ◌-◌}
use mathlib.Core.Path.{◌≡◌, sym, ap, ◌∙◌}
use mathlib.Core.List.{List, ◌∷◌, ◌++◌, map}
use native.Mathlib.Omega.{arith}
use lib.ListN.{set}
use Rattle.word.specs.Buffer.{put}
use Rattle.word.specs.Refusal.{Checked, fine}
use Rattle.catalogue.specs.Tables.{Table, TabRef, tables_from}
use Rattle.view.specs.Ast.{ok}
use Rattle.view.specs.Ast as ast
use Rattle.view.specs.Record.{node_at}
use Rattle.view.specs.Parse.{names_at, parse_value}
use Rattle.view.specs.declared.Fold.{Fold}
use Rattle.view.specs.declared.Pick.{Pick}
use Rattle.scope.specs.Scopes.{Open}
use Rattle.scope.specs.Table.{scopes_of, infos_of}
use Rattle.scope.specs.Blocks.{Tabs, all, tables_named, refs_of, opened}
use Rattle.scope.specs.Entry.{opened_by}
use Rattle.scope.specs.declared.Scope.{Scope}
use Rattle.resolve.specs.Resolve.{good, resolve}
use Rattle.resolve.specs.Notes.{notes_of, numbers_at}
use Rattle.resolve.specs.Claims.{or_no_table, Ready, answer_at, block_node}
use Rattle.resolve.specs.declared.Asked.{Asked}
use Rattle.resolve.specs.declared.Asked.TheVariants as ask
use Rattle.resolve.specs.declared.Files.{Files}
use Rattle.resolve.specs.declared.Known.{Known}
use Rattle.resolve.proofs.Inversion.{exists_good, single_good}
use Rattle.resolve.proofs.Turns.{after}
use Rattle.resolve.proofs.Scoped.{block_scopes, exists_one, single_two}
use Rattle.resolve.proofs.Noting.{put_cons, chain, numbers_length}
use Rattle.resolve.proofs.Noted.{noted_is, noted_by, notes_length, NotedAt}

numbers_are : (c : List ℕ) (n : ℕ) (v : List ℕ) (at count : ℕ) (ts : List TabRef) → tables_named (tables_from c n n 0) (names_at v at count) ≡ all ts
    → numbers_at c n v at count ≡ map (λ (t : TabRef). t.num) ts
unfolding numbers_at refs_of
numbers_are c n v at count ts e = rw e

refs_are : (T : Tabs) (ts : List TabRef) → T ≡ all ts → refs_of T ≡ ts
unfolding refs_of
refs_are T ts e = rw e

module _ (c ss v : List ℕ) (f : Files) (t : List Scope) (deep d at : ℕ) (w : Ready c ss v f t deep d at) (asked : Asked) (count : ℕ) (g : node_at v at ≡ block_node asked count)
    (b : Scope) (p : fine b ≡ or_no_table (opened_by ss (tables_named (tables_from c f.nc f.nc 0) (names_at v (at + 1) count)))) (u : List Scope) (q : u ≡ set t deep b)
    (o o₁ o₂ o₃ : List ℕ) (h₁ : o₁ ≡ set o at 0) (h₂ : o₂ ≡ put o₁ (at + 1) (numbers_at c f.nc v (at + 1) count)) (h₃ : NotedAt c v f u (deep + 1) (d - 1) (at + 1 + count) o₂ o₃) where
  abbrev cat : List Table
  cat = tables_from c f.nc f.nc 0

  abbrev Γ : List Open
  Γ = scopes_of c f.nc t deep

  abbrev Δ : List Open
  Δ = scopes_of c f.nc u (deep + 1)

  abbrev ns : List ℕ
  ns = numbers_at c f.nc v (at + 1) count

  -- the block's own note and its tables'
  before : o₂ ≡ put o at (0 ∷ ns)
  before = h₂ ∙ ap (λ (l : List ℕ). put l (at + 1) ns) h₁ ∙ put_cons o at 0 ns

  inside : (ts : List TabRef) → tables_named (tables_from c f.nc f.nc 0) (names_at v (at + 1) count) ≡ all ts → scopes_of c f.nc u (deep + 1) ≡ opened ts ∷ scopes_of c f.nc t deep
  inside ts e = block_scopes c ss v f t deep d at w asked count g b p u q ∙ ap (λ (us : List TabRef). opened us ∷ scopes_of c f.nc t deep) (refs_are _ ts e)

  pub exists_noted : (k : Fold) → asked ≡ ask.Rows k → NotedAt c v f t deep d at o o₃
  unfolding notes_of
  exists_noted k a =
      let s = exists_one c ss v f t deep d at w asked count g k a in
      noted_by cat Γ _ (ast.Exp.exists at k (names_at v (at + 1) count) s.x) s.end s.whole at o o₃
      (λ X T r.
      let y = exists_good cat Γ X T at k _ s.x r in
      let e : resolve cat Δ s.x ≡ good y.y _ = ap (λ (Θ : List Open). resolve cat Θ s.x) (inside y.tabs y.there) ∙ y.test in
      let i = noted_is cat Δ _ s.x s.end s.first (at + 1 + count) o₂ o₃ y.y _ e h₃ in
      let m = numbers_length c f.nc v (at + 1) count y.tabs y.there in
      chain o at (0 ∷ ns) o₂ (at + 1 + count) (notes_of y.y) o₃ before i (omega arith)
      ∙ ap (λ (ws : List ℕ). put o at (0 ∷ (ws ++ notes_of y.y))) (numbers_are c f.nc v (at + 1) count y.tabs y.there)
      ∙ ap (put o at) (sym (ap notes_of y.is)))

  module _ (l : Checked Known) (a : l ≡ answer_at c v f u (deep + 1) (d - 1) (at + 1 + count)) (x : Known) (e : l ≡ fine x) (o₄ : List ℕ) (h₄ : NotedAt c v f u (deep + 1) (d - 1) x.next o₃ o₄) where
    pub single_noted : (k : Pick) → asked ≡ ask.Values k → NotedAt c v f t deep d at o o₄
    unfolding notes_of
    single_noted k j =
        let s = single_two c ss v f t deep d at w asked count g k j in
        let m : s.mid ≡ x.next = after f.k cat Δ (infos_of u (deep + 1)) _ s.first (sym a ∙ e) in
        let second : parse_value v f.n (d - 1) x.next ≡ ok s.y s.end = rw m at s.second in
        noted_by cat Γ _ (ast.Exp.single at k (names_at v (at + 1) count) s.x s.y) s.end s.whole at o o₄
        (λ X T r.
        let y = single_good cat Γ X T at k _ s.x s.y r in
        let e₁ : resolve cat Δ s.x ≡ good y.y _ = ap (λ (Θ : List Open). resolve cat Θ s.x) (inside y.tabs y.there) ∙ y.test in
        let e₂ : resolve cat Δ s.y ≡ good y.z y.s = ap (λ (Θ : List Open). resolve cat Θ s.y) (inside y.tabs y.there) ∙ y.value in
        let i₁ = noted_is cat Δ _ s.x s.mid s.first (at + 1 + count) o₂ o₃ y.y _ e₁ h₃ in
        let i₂ = noted_is cat Δ _ s.y s.end second x.next o₃ o₄ y.z y.s e₂ h₄ in
        let n = numbers_length c f.nc v (at + 1) count y.tabs y.there in
        let l₁ = notes_length cat v f.n (d - 1) (at + 1 + count) s.x s.mid s.first Δ y.y _ e₁ in
        let both = chain o₂ (at + 1 + count) (notes_of y.y) o₃ x.next (notes_of y.z) o₄ i₁ i₂ (omega arith) in
        chain o at (0 ∷ ns) o₂ (at + 1 + count) (notes_of y.y ++ notes_of y.z) o₄ before both (omega arith)
        ∙ ap (λ (ws : List ℕ). put o at (0 ∷ (ws ++ (notes_of y.y ++ notes_of y.z)))) (numbers_are c f.nc v (at + 1) count y.tabs y.there)
        ∙ ap (put o at) (sym (ap notes_of y.is)))
