-- What is answered of a file with drawn outages, from what is read of the file.
use Rattle.scenario.proofs.Words.{◌≡◌, ◌∙◌, ℕ, ◌<◌, ◌^◌, List, ◌++◌, true, false, Option, None, ap, sym, subst, codes, refl, Members, Record, IsInRange, Outage, has_mistyped, some_table, number_at, processes_of, outages_among, record_of, are_bad_outages, outages_refused, when, first_of, key_refusals, number_refusals, part_refusals, outage_refusals, refusal_of, IsAnswer, all_outages, lacks_outages, with_outages, LinkOutage, ScenarioError}
use Rattle.scenario.proofs.{Firsts.{are_none, joined, kept as kept_first, alone, untrue}, RangeFacts.{in_range}, Alike.{natural, numbers_alike, parts_alike}, WithOutages.{kept, keys_alike, key_unknown, outages_alike, record_is}}
use Rattle.scenario.specs.declared.error.ScenarioError.TheVariants as error

module _ (drawn : List LinkOutage) (t : Members) where
  abbrev with_drawn : Members
  with_drawn = with_outages drawn t

  -- the file has no key for them
  pub no_key_refused : lacks_outages drawn t ≡ true → IsAnswer (refusal_of with_drawn) error.UnknownKey
  unfolding refusal_of
  no_key_refused lacks = λ other. rw (key_unknown drawn t lacks) refl

  module _ (fits : lacks_outages drawn t ≡ false) where
    abbrev after_parts : List (Option ScenarioError)
    after_parts = outage_refusals with_drawn

    abbrev after_numbers : List (Option ScenarioError)
    after_numbers = part_refusals t ++ after_parts

    abbrev after_keys : List (Option ScenarioError)
    after_keys = number_refusals t ++ after_numbers

    -- all but the last are those of the file
    are : refusal_of with_drawn ≡ first_of (key_refusals t ++ after_keys)
    unfolding refusal_of
    are =
        ap (λ ks. first_of (ks ++ (number_refusals with_drawn ++ (part_refusals with_drawn ++ after_parts)))) (keys_alike drawn t fits)
        ∙ (ap (λ ns. first_of (key_refusals t ++ (ns ++ (part_refusals with_drawn ++ after_parts)))) (numbers_alike t with_drawn (kept drawn t))
        ∙ ap (λ ps. first_of (key_refusals t ++ (number_refusals t ++ (ps ++ after_parts)))) (parts_alike t with_drawn (kept drawn t)))

    pub keys_refused : (e : ScenarioError) → IsAnswer (first_of (key_refusals t)) e → IsAnswer (refusal_of with_drawn) e
    keys_refused e is = λ other. are ∙ kept_first (key_refusals t) after_keys e (is other)

    module _ (keys : first_of (key_refusals t) ≡ None) where
      past_keys : refusal_of with_drawn ≡ first_of after_keys
      past_keys = are ∙ joined (key_refusals t) after_keys keys

      pub numbers_refused : (e : ScenarioError) → IsAnswer (first_of (number_refusals t)) e → IsAnswer (refusal_of with_drawn) e
      numbers_refused e is = λ other. past_keys ∙ kept_first (number_refusals t) after_numbers e (is other)

      module _ (numbers : first_of (number_refusals t) ≡ None) where
        past_numbers : refusal_of with_drawn ≡ first_of after_numbers
        past_numbers = past_keys ∙ joined (number_refusals t) after_numbers numbers

        pub parts_refused : (e : ScenarioError) → IsAnswer (first_of (part_refusals t)) e → IsAnswer (refusal_of with_drawn) e
        parts_refused e is = λ other. past_numbers ∙ kept_first (part_refusals t) after_parts e (is other)

        module _ (parts : first_of (part_refusals t) ≡ None) (n : ℕ) (is : n ≡ processes_of t) where
          typed : some_table has_mistyped t ≡ false
          typed = untrue _ _ (are_none (key_refusals t) keys).1.1.0

          outages_are : outages_refused with_drawn ≡ are_bad_outages n (all_outages drawn t)
          outages_are = outages_alike drawn t fits typed ∙ ap (λ m. are_bad_outages m (all_outages drawn t)) (sym is)

          past_parts : refusal_of with_drawn ≡ when (are_bad_outages n (all_outages drawn t)) error.OutageLine
          past_parts =
              past_numbers
              ∙ (joined (part_refusals t) after_parts parts
              ∙ (alone (when (outages_refused with_drawn) error.OutageLine) ∙ ap (λ b. when b error.OutageLine) outages_are))

          pub drawn_refused : (e : ScenarioError) → IsAnswer (when (are_bad_outages n (all_outages drawn t)) error.OutageLine) e → IsAnswer (refusal_of with_drawn) e
          drawn_refused e by = λ other. past_parts ∙ by other

          module _ (clean : when (are_bad_outages n (all_outages drawn t)) error.OutageLine ≡ None) where
            pub none_refused : refusal_of with_drawn ≡ None
            none_refused = past_parts ∙ clean

            module _ (s : Record) (outages : List (List Outage)) (parts_are : s ≡ record (record_of t) { outages = outages }) (all : outages ≡ outages_among (all_outages drawn t) n) where
              pub same_record : s ≡ record_of with_drawn
              same_record =
                  parts_are
                  ∙ (ap (λ os. record (record_of t) { outages = os }) (all ∙ ap (outages_among (all_outages drawn t)) is) ∙ sym (record_is drawn t fits typed))

              pub read_in_range : (seed : ℕ) → seed ≡ number_at (codes "seed") 0 t → seed < 2 ^ 63 → IsInRange s
              read_in_range seed same high =
                  let low : number_at (codes "seed") 0 with_drawn < 2 ^ 63 = subst (λ x. x < 2 ^ 63) (same ∙ sym (natural t with_drawn (kept drawn t) (codes "seed") 0 refl)) high in
                  subst (λ r. IsInRange r) (sym same_record) (in_range with_drawn none_refused low)
