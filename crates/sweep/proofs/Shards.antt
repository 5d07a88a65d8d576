-- The texts of shards, one after the other.
use Rattle.sweep.proofs.Words.{◌≡◌, ℕ, zero, suc, ◌+◌, ◌≤◌, ◌++◌, List, [], ◌∷◌, length, refl, sym, ap, ◌∙◌, subst, arith, append_assoc, append-nil, cond, ne_eqb, AllZip, flat_map, range_with_len, flat_map-append, SourcesRecord, GridRecord, points, ShardRecord, LayoutRecord, Text, header_text, header_of, names_of, numbers_of, units_in, units_of, AreRowsOf, HasRowsOf, IsStudyText, ShardsMakeWhole}
use Rattle.{sweep.proofs.{Units.{units_joined}, Zipped.{zip_append}}, study.proofs.Blocks.{all_blocks}}

module _ (sources : SourcesRecord) (g : GridRecord) (layout : LayoutRecord) where
  no_rows : HasRowsOf sources g layout [] []
  no_rows = record { parts = []; each = tt; text_is = refl }

  both_rows : (xs ys : List ℕ) (a b : Text) → HasRowsOf sources g layout xs a → HasRowsOf sources g layout ys b → HasRowsOf sources g layout (xs ++ ys) (a ++ b)
  both_rows xs ys a b x y = record {
    parts = x.parts ++ y.parts;
    each = zip_append (AreRowsOf sources g layout) xs x.parts ys y.parts x.each y.each;
    text_is = ap (λ t. t ++ b) x.text_is ∙ ap (λ t. flat_map (λ r. r) x.parts ++ t) y.text_is
        ∙ sym (flat_map-append (λ r. r) x.parts y.parts);
  }

  module _ (of : ℕ) where
    abbrev shard : ℕ → ShardRecord
    shard number = record { number = number; of = of }

    no_header : (number : ℕ) → 2 ≤ number → header_of g (shard number) layout ≡ []
    no_header number high = ap (λ b. cond b (header_text layout.picks (names_of layout.rows layout.groups g)) []) (ne_eqb number 1 (λ e. omega (arith, e, high)))

    -- the texts of shards that aren't the first have rows alone
    later : (a n : ℕ) (texts : List Text) → 2 ≤ a → AllZip (λ number text. IsStudyText sources g (shard number) layout text) (range_with_len a n) texts
        → HasRowsOf sources g layout (flat_map (λ number. units_of layout.rows g (shard number)) (range_with_len a n)) (flat_map (λ t. t) texts)
    later a zero [] high z = no_rows
    later a zero (t ∷ texts) high z = absurd z
    later a (suc n) [] high z = absurd z
    later a (suc n) (t ∷ texts) high z =
        let P : Text → Type 0 = λ r. HasRowsOf sources g layout (units_of layout.rows g (shard a)) r in
        let here : z.0.rows ≡ t = sym (z.0.text_is ∙ ap (λ h. h ++ z.0.rows) (no_header a high)) in
        both_rows (units_of layout.rows g (shard a)) (flat_map (λ number. units_of layout.rows g (shard number)) (range_with_len (a + 1) n)) t (flat_map (λ u. u) texts)
        (subst P here z.0.has) (later (a + 1) n texts (omega (arith, high)) z.1)

    pub shards_make_whole : 1 ≤ of → ShardsMakeWhole sources g layout of
    shards_make_whole low = go of refl
      where
        go : (n : ℕ) → of ≡ n → (texts : List Text)
            → AllZip (λ number text. IsStudyText sources g (shard number) layout text) (range_with_len 1 n) texts
            → IsStudyText sources g (record { number = 1; of = 1 }) layout (flat_map (λ t. t) texts)
        go zero is texts z = absurd (omega (arith, low, is))
        go (suc n) is [] z = absurd z
        go (suc n) is (t ∷ texts) z =
            let all = range_with_len 0 (length (points g)) in
            let rest = later 2 n texts (omega arith) z.1 in
            let rows : HasRowsOf sources g layout (flat_map (λ number. units_of layout.rows g (shard number)) (range_with_len 1 (suc n))) (z.0.rows ++ flat_map (λ u. u) texts) =
            both_rows (units_of layout.rows g (shard 1)) (flat_map (λ number. units_of layout.rows g (shard number)) (range_with_len 2 n)) z.0.rows (flat_map (λ u. u) texts) z.0.has rest in
            let P : ℕ → Type 0 = λ k. HasRowsOf sources g layout (flat_map (λ number. units_of layout.rows g (shard number)) (range_with_len 1 k)) (z.0.rows ++ flat_map (λ u. u) texts) in
            let Q : List ℕ → Type 0 = λ l. HasRowsOf sources g layout l (z.0.rows ++ flat_map (λ u. u) texts) in
            let one : numbers_of g (record { number = 1; of = 1 }) ≡ all = sym (append-nil _) ∙ all_blocks 1 (omega arith) all in
            let parts : flat_map (λ number. numbers_of g (shard number)) (range_with_len 1 of) ≡ numbers_of g (record { number = 1; of = 1 }) = all_blocks of low all ∙ sym one in
            let units = units_joined layout.rows g (λ (number : ℕ). numbers_of g (shard number)) (range_with_len 1 of) ∙ ap (λ l. units_in layout.rows g l) parts in
            record {
              rows = z.0.rows ++ flat_map (λ u. u) texts;
              has = subst Q units (subst P (sym is) rows);
              text_is = ap (λ u. u ++ flat_map (λ v. v) texts) z.0.text_is ∙ append_assoc (header_of g (shard 1) layout) z.0.rows (flat_map (λ v. v) texts);
            }
