-- Shards that are swept one after the other, into memory.
use Rattle.run_tests.proofs.Words.{◌≡◌, ℕ, ◌+◌, List, [], ◌∷◌, ◌++◌, Some, sym, ap, ◌∙◌, subst, arith, AllZip, flat_map, range_with_len, flat_map_more, SourcesRecord, Held, GridRecord, WroteStudy, Text, IsStudyText, zip_push, range_more}
use Rattle.sweep.specs.Layout.{LayoutRecord}

module _ (sources : SourcesRecord) (g : GridRecord) (layout : LayoutRecord) (of : ℕ) where
  abbrev IsNumbered : ℕ → Text → Type 0
  IsNumbered number text = IsStudyText sources g (record { number = number; of = of }) layout text

  -- the texts of the first shards went out, and nothing else
  pub record AreOut (count : ℕ) (outlet : Held) : Type 0 where
    pub texts : List Text
    pub each : AllZip IsNumbered (range_with_len 1 count) texts
    pub bytes : outlet.bytes ≡ flat_map (λ t. t) texts
    pub failures : outlet.failures ≡ 0

  pub none_out : (outlet : Held) → outlet ≡ record { bytes = []; failures = 0 } → AreOut 0 outlet
  none_out outlet is = record {
    texts = [];
    each = tt;
    bytes = ap (λ o. o.bytes) is;
    failures = ap (λ o. o.failures) is;
  }

  pub one_more : (count : ℕ) (old new : Held) → AreOut count old
      → WroteStudy sources g (record { number = count + 1; of = of }) layout (λ o. Some o.bytes) (λ o. o.failures) old new
      → AreOut (count + 1) new
  one_more count old new out more =
      let next : count + 1 ≡ 1 + count = omega arith in
      let P : ℕ → Type 0 = λ n. IsNumbered n more.text in
      let Q : List ℕ → Type 0 = λ l. AllZip IsNumbered l (out.texts ++ more.text ∷ []) in
      record {
        texts = out.texts ++ more.text ∷ [];
        each = subst Q (sym (range_more 1 count))
            (zip_push IsNumbered (range_with_len 1 count) out.texts (1 + count) more.text out.each
            (subst P next more.is_text));
        bytes = more.wrote.bytes ∙ ap (λ b. b ++ more.text) out.bytes ∙ flat_map_more (λ t. t) [] out.texts more.text;
        failures = more.wrote.failures ∙ out.failures;
      }
