-- What the code's walk of a view says, by the parser.
-- Assumes nothing.
use Rattle.std.specs.Prelude.{◌≡◌, ℕ, List, Result, Ok, Err}
use Rattle.word.specs.Refusal.{Checked, fine, refusal, number_of}
use Rattle.word.specs.declared.refusal.Refusal.{Refusal}
use Rattle.view.specs.Ast.{TabName, Exp, Block, Parsed}
use Rattle.view.specs.Parse.{many, parse_table, parse_block, parse_value, place_of}
use Rattle.view.specs.declared.reader.Reader.{Reader}

-- what the parser says from a reader's place on
abbrev pub table_at : Reader → ℕ → Parsed TabName
table_at r depth = parse_table r.view.now r.count depth r.place

abbrev pub tables_at : Reader → ℕ → ℕ → Parsed (List TabName)
tables_at r count depth = many (parse_table r.view.now r.count depth) count r.place

abbrev pub value_at : Reader → ℕ → Parsed Exp
value_at r depth = parse_value r.view.now r.count depth r.place

abbrev pub values_at : Reader → ℕ → ℕ → Parsed (List Exp)
values_at r count depth = many (parse_value r.view.now r.count depth) count r.place

abbrev pub block_at : Reader → ℕ → ℕ → ℕ → Parsed Block
block_at r tables values depth = parse_block r.view.now r.count depth (parse_value r.view.now r.count depth) tables values r.place

-- what a reader that stands at a place has read
abbrev pub read_to : {A : Type 0} → ℕ → Result A Refusal → Checked ℕ
read_to place (Ok a) = fine place
read_to place (Err r) = refusal (number_of r.reason) r.place

-- a reader that has walked on: it stands where the parser's answer says, or that refusal is its answer; its view stays
pub record Walked {A B : Type 0} (P : Parsed A) (old new : Reader) (result : Result B Refusal) : Type 0 where
  pub value : read_to new.place result ≡ place_of P
  pub view : new.view ≡ old.view
  pub count : new.count ≡ old.count
