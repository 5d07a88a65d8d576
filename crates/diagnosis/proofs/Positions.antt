-- Lines and columns, as a loop over the bytes counts them.
use Rattle.std.proofs.{Common.{◌≡◌, ◌≤◌, ◌<◌, ℕ, ◌+◌, List, [], ◌∷◌, length, get_or, drop, drop-cons, add-one, Bool, true, false, refl, ap, sym, ◌∙◌, if◌then◌else◌, arith}, lemmas.List.{drop_all}}
use Rattle.std.specs.{List.{filter, list_any}, Fmt.{char_count, is_char_start}}
use Rattle.diagnosis.specs.Diagnosis.{is_line_feed, last_line, line_after, column_after}

-- how many characters start at a byte
abbrev pub width : ℕ → ℕ
width b = if is_char_start b then 1 else 0

-- the column after the rest, from this one
abbrev pub column_from : ℕ → List ℕ → ℕ
column_from column rest = if list_any is_line_feed rest then 1 + char_count (last_line rest) else column + char_count rest

whole_line : (text : List ℕ) → list_any is_line_feed text ≡ false → last_line text ≡ text
unfolding last_line
whole_line [] none = refl
whole_line (b ∷ text) none = rw none refl

pub column_whole : (text : List ℕ) → column_after text ≡ column_from 1 text
column_whole text = by_any (list_any is_line_feed text) text refl
  where
    by_any : (any : Bool) (text : List ℕ) → list_any is_line_feed text ≡ any → column_after text ≡ column_from 1 text
    by_any true text is = rw is refl
    by_any false text is = rw (is, whole_line text is) refl

-- after one byte
column_past : (column b : ℕ) (rest : List ℕ) (feeds : Bool) → is_line_feed b ≡ feeds → (more : Bool) → list_any is_line_feed rest ≡ more
    → column_from column (b ∷ rest) ≡ (if feeds then column_from 1 rest else column_from (column + width b) rest)
unfolding last_line char_count
column_past column b rest true e true f = rw (e, f) refl
column_past column b rest true e false f = rw (e, f, whole_line rest f) refl
column_past column b rest false e true f = rw (e, f) refl
column_past column b rest false e false f = rw (e, f) (omega arith)

-- ---- the loop

-- how far the first i bytes of the text are counted
pub record IsCounted (text : List ℕ) (i line column : ℕ) : Type 0 where
  pub line_is : line_after text ≡ line + length (filter is_line_feed (drop i text))
  pub column_is : column_after text ≡ column_from column (drop i text)
  pub lines : line ≤ i + 1
  pub columns : column ≤ i + 1

pub start : (text : List ℕ) → IsCounted text 0 1 1
start text = record { line_is = refl; column_is = column_whole text; lines = omega arith; columns = omega arith }

at_byte : (text : List ℕ) (i : ℕ) → i < length text → drop i text ≡ get_or text i 0 ∷ drop (i + 1) text
at_byte text i within = rw add-one (drop-cons text i 0 within)

at_most_one : (b : ℕ) → width b ≤ 1
at_most_one b = elim (is_char_start b) as (λ s. (if s then 1 else 0) ≤ 1) [ true ↦ omega arith | false ↦ omega arith ]

-- one byte more
pub step : (text : List ℕ) (i line column next_line next_column : ℕ) (feeds : Bool) → i < length text → is_line_feed (get_or text i 0) ≡ feeds
    → next_line ≡ (if feeds then line + 1 else line) → next_column ≡ (if feeds then 1 else column + width (get_or text i 0))
    → IsCounted text i line column → IsCounted text (i + 1) next_line next_column
step text i line column next_line next_column true within is e f so = record {
  line_is = so.line_is ∙ ap (λ t. line + length (filter is_line_feed t)) (at_byte text i within) ∙ rw (is, e) (omega arith);
  column_is = so.column_is ∙ ap (column_from column) (at_byte text i within)
      ∙ (column_past column (get_or text i 0) (drop (i + 1) text) true is (list_any is_line_feed (drop (i + 1) text)) refl ∙ ap (λ l. column_from l (drop (i + 1) text)) (sym f));
  lines = omega (arith, so.lines);
  columns = omega arith;
}
step text i line column next_line next_column false within is e f so = record {
  line_is = so.line_is ∙ ap (λ t. line + length (filter is_line_feed t)) (at_byte text i within) ∙ rw (is, e) refl;
  column_is = so.column_is ∙ ap (column_from column) (at_byte text i within)
      ∙ (column_past column (get_or text i 0) (drop (i + 1) text) false is (list_any is_line_feed (drop (i + 1) text)) refl ∙ ap (λ l. column_from l (drop (i + 1) text)) (sym f));
  lines = omega (arith, so.lines);
  columns = omega (arith, so.columns, at_most_one (get_or text i 0));
}

pub done : (text : List ℕ) (i line column : ℕ) → length text ≤ i → IsCounted text i line column → (line ≡ line_after text) × (column ≡ column_after text)
unfolding char_count
done text i line column past so = (
  sym (so.line_is ∙ ap (λ t. line + length (filter is_line_feed t)) (drop_all i text past) ∙ omega arith),
  sym (so.column_is ∙ ap (column_from column) (drop_all i text past) ∙ none column),
)
  where
    none : (column : ℕ) → column_from column [] ≡ column
    none column = omega arith
