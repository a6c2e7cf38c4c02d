-- A block's tables by their names: what the catalogue says of each, what the entry made of them opens, and the names as they were read.
-- Assumes nothing.
use Rattle.std.specs.Prelude.{Option, Some, None, Result, Ok, Err}
use Prim.Native.Nat.{ℕ, zero, suc, ◌+◌, ◌-◌, ◌<◌, ◌≤◌, min}
use mathlib.Core.Path.{◌≡◌, refl, sym, ap, subst, ◌∙◌}
use mathlib.Core.Bool.{Bool, true, false, cond}
use mathlib.Core.List.{List, [], ◌∷◌, map}
use native.Mathlib.Omega.{arith}
use native.Mathlib.Decide.{dec_lt}
use lib.Dec.{eqb}
use lib.ListN.{get_or, length, length-map, replicate}
use Rattle.word.specs.Buffer.{put}
use Rattle.word.specs.Record.{a_at}
use Rattle.word.proofs.Writing.{put_at, put_after}
use Rattle.class.specs.declared.Info.TheVariants.{Fixed}
use Rattle.cell.specs.Res.{Res, stuck, done, nth}
use Rattle.cell.specs.declared.Type.TheVariants.{Null}
use Rattle.catalogue.specs.Tables.{Table, TabRef, table_at, tables_from, table_named}
use Rattle.catalogue.specs.Starts.{starts_from, StartsAre, ref_of}
use Rattle.catalogue.proofs.Places.{named_in, find_begin, starts_number, start_is, start_below}
use Rattle.view.specs.Ast.{TabName}
use Rattle.view.specs.Record.{node_at}
use Rattle.view.specs.Parse.{name_of, names_at}
use Rattle.scope.specs.Table.{tabs_at, open_of}
use Rattle.scope.specs.Blocks.{Tabs, all, missing, before, found_at, tables_named, refs_of, opened}
use Rattle.scope.specs.Entry.{count_in, table_in, type_in, info_in, block_scope, places_of, opened_by, Among}
use Rattle.scope.specs.declared.Scope.{Scope}
use Rattle.scope.specs.declared.Scope.TheVariants as S

-- a table that was looked up: its number is one of the catalogue's, and it is the table of that number's record
pub record RefIs (c : List ℕ) (n tables : ℕ) (ss : List ℕ) (t : TabRef) : Type 0 where
  pub below : t.num < tables
  pub is : t.table ≡ table_at c n (get_or ss t.num 0)

-- one after the other, all of a block's tables are in the catalogue
all_cons : {G : Type 0} (p : ℕ) (x : Res TabRef) (r : Tabs) (ts : List TabRef) → found_at p x r ≡ all ts → ((t : TabRef) (us : List TabRef) → x ≡ done t → r ≡ all us → ts ≡ t ∷ us → G) → G
unfolding found_at before
all_cons p stuck r ts e k = absurd (let z : ◌≡◌ {A = ℕ} 0 1 = cc in omega arith)
all_cons p (done t) (all us) ts e k = k t us refl refl (cc)
all_cons p (done t) (missing q) ts e k = absurd (let z : ◌≡◌ {A = ℕ} 0 1 = cc in omega arith)

zeros : (k j : ℕ) → ◌≡◌ {A = ℕ} (get_or (replicate k 0) j 0) 0
zeros zero j = refl
zeros (suc k) zero = refl
zeros (suc k) (suc j) = zeros k j

-- the entry of one table or more is a block's
pub block_entry : (ws : List ℕ) (k : ℕ) → 1 ≤ k → block_scope ws k ≡ S.Block (record { tables = ws; count = k })
unfolding block_scope
block_entry ws zero h = absurd (omega arith)
block_entry ws (suc k) h = refl

module _ (c : List ℕ) (n tables : ℕ) (ss : List ℕ) (a : StartsAre c n tables ss) where
  named_in_lem : (name j : ℕ) (is : List ℕ) (t : TabRef) → named_in c n name j is ≡ done t → (j ≤ t.num) × (t.num < j + length is) × (t.table ≡ table_at c n (get_or is (t.num - j) 0))
  unfolding named_in
  named_in_lem name j [] t e = absurd (let z : ◌≡◌ {A = ℕ} 0 1 = cc in omega arith)
  named_in_lem name j (i ∷ is) t e = go (eqb (a_at c i) name) (named_in_lem name (suc j) is t) e
    where
      go : (b : Bool) → (named_in c n name (suc j) is ≡ done t → (suc j ≤ t.num) × (t.num < suc j + length is) × (t.table ≡ table_at c n (get_or is (t.num - suc j) 0)))
          → cond b (done (record { num = j; table = table_at c n i })) (named_in c n name (suc j) is) ≡ done t
          → (j ≤ t.num) × (t.num < j + suc (length is)) × (t.table ≡ table_at c n (get_or (i ∷ is) (t.num - j) 0))
      go true f e = let d : record { num = j; table = table_at c n i } ≡ t = cc in rw (← d) (let z : j - j ≡ 0 = omega arith in (omega arith, omega arith, rw z))
      go false f e =
          let g = f e in
          let z : t.num - j ≡ suc (t.num - suc j) = omega (arith, g.0) in
          (omega (arith, g.0), omega (arith, g.1), rw z g.2)

  pub ref_is : (name : ℕ) (t : TabRef) → table_named name (tables_from c n n 0) ≡ done t → RefIs c n tables ss t
  ref_is name t e =
      let g = named_in_lem name 0 (starts_from c n 0) t (sym (find_begin c n name) ∙ e) in
      let l : t.num < tables = omega (arith, g.1, starts_number c n tables ss a) in
      let z : t.num - 0 ≡ t.num = omega arith in
      record { below = l; is = rw (start_is c n tables ss a t.num l) (rw z at g.2) }

  abbrev Refs : List TabRef → Type 0
  Refs [] = Unit {0}
  Refs (t ∷ ts) = RefIs c n tables ss t × Refs ts

  refs_are : (names : List TabName) (ts : List TabRef) → tables_named (tables_from c n n 0) names ≡ all ts → Refs ts
  unfolding tables_named
  refs_are [] ts e = let d : [] ≡ ts = cc in rw (← d) tt
  refs_are (x ∷ xs) ts e = all_cons _ _ _ ts e (λ t us f g h. rw h (ref_is x.name t f, refs_are xs us g))

  -- the entry of tables that were looked up opens them
  tabs_are : (s : Scope) (i : ℕ) (ts : List TabRef) → Refs ts → ((j : ℕ) → j < length ts → table_in s (i + j) ≡ get_or (places_of ss ts) j 0) → tabs_at c n s i (length ts) ≡ map (λ t. t.table) ts
  unfolding tabs_at
  tabs_are s i [] r f = refl
  tabs_are s i (t ∷ ts) (r, rs) f =
      let e : table_in s i ≡ get_or ss t.num 0 = let z : i + 0 ≡ i = omega arith in rw z at (f 0 (omega arith)) in
      let g : (j : ℕ) → j < length ts → table_in s (i + 1 + j) ≡ get_or (places_of ss ts) j 0 = λ j h. let z : i + suc j ≡ i + 1 + j = omega arith in rw z at (f (suc j) (omega arith)) in
      rw (e, r.is, tabs_are s (i + 1) ts rs g)

  -- the record of each is among the catalogue's
  places_below : (ts : List TabRef) → Refs ts → (j : ℕ) → j < length ts → get_or (places_of ss ts) j 0 < n
  places_below [] r j h = absurd (omega arith)
  places_below (t ∷ ts) (r, rs) zero h = start_below c n tables ss a t.num r.below
  places_below (t ∷ ts) (r, rs) (suc j) h = places_below ts rs j (omega arith)

  module _ (ts : List TabRef) (r : Refs ts) (some : 1 ≤ length ts) (few : length ts ≤ 4) (l : n ≤ 2080) where
    abbrev entry : Scope
    entry = S.Block (record { tables = put (replicate 4 0) 0 (places_of ss ts); count = length ts })

    put_here : (j : ℕ) → j < length ts → table_in entry (0 + j) ≡ get_or (places_of ss ts) j 0
    unfolding table_in
    put_here j h = put_at (replicate 4 0) 0 (places_of ss ts) j (simp length-map (omega arith)) (simp length-map h)

    entry_opens : open_of c n entry ≡ opened ts
    unfolding open_of
    entry_opens = let e : min (length ts) 4 ≡ length ts = omega arith in rw (e, tabs_are entry 0 ts r put_here)

    entry_below : (j : ℕ) → Dec (j < length ts) → table_in entry j < n
    unfolding table_in
    entry_below j (yes h) = let z : 0 + j ≡ j = omega arith in rw (rw z at (put_here j h)) (places_below ts r j h)
    entry_below j (no h) =
        let e : get_or (put (replicate 4 0) 0 (places_of ss ts)) j 0 ≡ 0 = put_after (replicate 4 0) 0 (places_of ss ts) j (simp length-map (omega arith)) ∙ zeros 4 j in
        rw e (omega (arith, places_below ts r 0 some))

    entry_among : Among n entry
    entry_among = record { below = λ j. entry_below j (dec_lt j (length ts)) }

-- the names of a block's TABLE records
module _ (cat : List Table) (v : List ℕ) where
  pub names_length : (at count : ℕ) (ts : List TabRef) → tables_named cat (names_at v at count) ≡ all ts → length ts ≡ count
  unfolding tables_named names_at
  names_length at zero ts e = let d : [] ≡ ts = cc in rw (← d)
  names_length at (suc count) ts e = all_cons _ _ _ ts e (λ t us f g h. rw h (ap suc (names_length (at + 1) count us g)))

  -- table j of the block is the one that the catalogue has for the name of TABLE record at + j
  pub name_at : (at count : ℕ) (ts : List TabRef) → tables_named cat (names_at v at count) ≡ all ts → (j : ℕ) → j < count → table_named (name_of (node_at v (at + j))) cat ≡ nth ts j
  unfolding tables_named names_at nth
  name_at at zero ts e j l = absurd (omega arith)
  name_at at (suc count) ts e zero l = all_cons _ _ _ ts e (λ t us f g h. let z : at + 0 ≡ at = omega arith in rw (z, h) f)
  name_at at (suc count) ts e (suc j) l = all_cons _ _ _ ts e (λ t us f g h. let z : at + suc j ≡ at + 1 + j = omega arith in rw (z, h) (name_at (at + 1) count us g j (omega arith)))

-- what an answer says of a block: its tables are all in the catalogue, and the entry opens them; or one is missing
pub record BlockOpened (c : List ℕ) (n : ℕ) (T : Tabs) (s : Scope) : Type 0 where
  pub found : T ≡ all (refs_of T)
  pub opens : open_of c n s ≡ opened (refs_of T)
  pub untyped : type_in s ≡ Null
  pub known : info_in s ≡ Fixed 0
  pub among : Among n s
  pub counted : count_in s ≡ length (refs_of T)

-- the first table that is missing is one of those named
missing_first : (cat : List Table) (v : List ℕ) (at count p : ℕ) → tables_named cat (names_at v at count) ≡ missing p → p < at + count
unfolding tables_named names_at found_at before
missing_first cat v at zero p e = absurd (let z : ◌≡◌ {A = ℕ} 0 1 = cc in omega arith)
missing_first cat v at (suc count) p e = go (table_named (name_of (node_at v at)) cat) (tables_named cat (names_at v (at + 1) count)) (missing_first cat v (at + 1) count p) e
  where
    go : (x : Res TabRef) (r : Tabs) → (r ≡ missing p → p < at + 1 + count) → found_at at x r ≡ missing p → p < at + suc count
    go stuck r h k = let z : at ≡ p = cc in omega arith
    go (done t) (all ts) h k = absurd (let z : ◌≡◌ {A = ℕ} 0 1 = cc in omega arith)
    go (done t) (missing q) h k = let l = h k in omega arith

-- where no entry is made of tables, the record said is that of the first that is missing
pub tabs_missing : (ss : List ℕ) (T : Tabs) (p : ℕ) → Err p ≡ opened_by ss T → T ≡ missing p
tabs_missing ss (all ts) p e = absurd (unfold opened_by in let z : ◌≡◌ {A = ℕ} 0 1 = cc in omega arith)
tabs_missing ss (missing q) p e = let z : q ≡ p = unfold opened_by in cc in ap missing z

module _ (c : List ℕ) (n tables : ℕ) (ss : List ℕ) (v : List ℕ) (at count : ℕ) where
  entry_says : (ts : List TabRef) → StartsAre c n tables ss → n ≤ 2080 → (1 ≤ count) × (count ≤ 4) → tables_named (tables_from c n n 0) (names_at v at count) ≡ all ts
      → BlockOpened c n (all ts) (block_scope (put (replicate 4 0) 0 (places_of ss ts)) (length ts))
  unfolding refs_of type_in info_in count_in
  entry_says ts a b l x =
      let r = refs_are c n tables ss a (names_at v at count) ts x in
      let k = names_length (tables_from c n n 0) v at count ts x in
      rw (block_entry (put (replicate 4 0) 0 (places_of ss ts)) (length ts) (omega arith)) (record {
        found = refl;
        opens = entry_opens c n tables ss a ts r (omega arith) (omega arith) b;
        untyped = refl;
        known = refl;
        among = entry_among c n tables ss a ts r (omega arith) (omega arith) b;
        counted = omega arith;
      })

  pub block_opened : (s : Scope) → StartsAre c n tables ss → n ≤ 2080 → (1 ≤ count) × (count ≤ 4) → Ok s ≡ opened_by ss (tables_named (tables_from c n n 0) (names_at v at count))
      → BlockOpened c n (tables_named (tables_from c n n 0) (names_at v at count)) s
  unfolding opened_by
  block_opened s a b l e = go (tables_named (tables_from c n n 0) (names_at v at count)) refl e
    where
      go : (T : Tabs) → tables_named (tables_from c n n 0) (names_at v at count) ≡ T → Ok s ≡ opened_by ss T → BlockOpened c n T s
      go (all ts) x y =
          let z : block_scope (put (replicate 4 0) 0 (places_of ss ts)) (length ts) ≡ s = cc in
          subst (λ (u : Scope). BlockOpened c n (all ts) u) z (entry_says ts a b l x)
      go (missing p) x y = absurd (let z : ◌≡◌ {A = ℕ} 0 1 = cc in omega arith)

  -- where no entry is made, the record said is the first TABLE whose table is not in the catalogue, and one of the block's
  pub block_missing : (p : ℕ) → Err p ≡ opened_by ss (tables_named (tables_from c n n 0) (names_at v at count)) → (tables_named (tables_from c n n 0) (names_at v at count) ≡ missing p) × (p < at + count)
  block_missing p e = go (tables_named (tables_from c n n 0) (names_at v at count)) refl e
    where
      go : (T : Tabs) → tables_named (tables_from c n n 0) (names_at v at count) ≡ T → Err p ≡ opened_by ss T → (T ≡ missing p) × (p < at + count)
      go (all ts) x y = absurd (unfold opened_by in let z : ◌≡◌ {A = ℕ} 0 1 = cc in omega arith)
      go (missing q) x y =
          let h = missing_first (tables_from c n n 0) v at count q x in
          let z : q ≡ p = unfold opened_by in cc in
          (ap missing z, rw (← z) h)

  -- where the tables are there, the block is opened
  pub block_fine : (ts : List TabRef) (x : Result Scope ℕ) → tables_named (tables_from c n n 0) (names_at v at count) ≡ all ts → x ≡ opened_by ss (tables_named (tables_from c n n 0) (names_at v at count))
      → x ≡ Ok (block_scope (put (replicate 4 0) 0 (places_of ss ts)) (length ts))
  unfolding opened_by
  block_fine ts x e f = f ∙ rw e

  -- the number of each table is found again at its TABLE record
  pub number_again : (ts : List TabRef) (t : TabRef) (j p : ℕ) (r : Option ℕ) → tables_named (tables_from c n n 0) (names_at v at count) ≡ all ts → j < count → nth ts j ≡ done t → p ≡ at + j
      → table_named (name_of (node_at v p)) (tables_from c n n 0) ≡ ref_of c n ss r → r ≡ Some t.num
  unfolding ref_of
  number_again ts t j p r e l d f g = go r (sym d ∙ sym (name_at (tables_from c n n 0) v at count ts e j l) ∙ rw (← f) g)
    where
      go : (o : Option ℕ) → done t ≡ ref_of c n ss o → o ≡ Some t.num
      go (Some k) x = let y : t ≡ record { num = k; table = table_at c n (get_or ss k 0) } = cc in rw y
      go None x = absurd (let z : ◌≡◌ {A = ℕ} 0 1 = cc in omega arith)
