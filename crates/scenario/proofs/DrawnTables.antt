-- A file's table with drawn outages.
use Rattle.scenario.proofs.Words.{◌≡◌, ℕ, ◌+◌, ◌<◌, length, take, get_or, nat_le, ◌==◌, List, [], ◌∷◌, ◌++◌, map, Bool, true, false, not, ◌&&◌, ◌||◌, Option, Some, None, is_some, refl, ap, sym, ◌∙◌, Ordering, Less, Equal, Greater, or-true, list_any, nat_cmp, match_ordering, is_eq, slice_cmp, take_more, map-append, length-map, get_or-map, list_any-append, list_any_at, Data, table, Members, no_members, member, get_member, items_of, Field, number_or, all_items, is_table, the_tables, is_listed, keys_of, has_unlisted, is_lacking, has_lacking, is_mistyped, has_mistyped, outage_fields, number_at, pair_of, outage_of, is_outside, is_bad_outage, put, outage_table, LinkOutage}
use Rattle.{std.proofs.lemmas.{Map.Lookups.{exact_bytes}, Cmp.{nat_list_cmp_total, tied_itself}}, process_api.specs.Place.{last_tick}}

-- ---- one drawn outage

pub bad_drawn : (n : ℕ) (o : LinkOutage) → is_bad_outage n (outage_table o)
    ≡ (not (nat_le 1 o.from && nat_le o.from n) || (not (nat_le 1 o.to && nat_le o.to n) || ((o.from == o.to)
    || (not (nat_le 0 o.begin && nat_le o.begin last_tick) || (not (nat_le 0 o.until && nat_le o.until last_tick) || nat_le o.until o.begin)))))
unfolding is_bad_outage is_outside number_at number_or
bad_drawn n o = refl

pub drawn_pair : (o : LinkOutage) → pair_of (outage_table o) ≡ (o.from, o.to)
unfolding number_at number_or
drawn_pair o = refl

pub drawn_outage : (o : LinkOutage) → outage_of (outage_table o) ≡ record { begin = o.begin; until = o.until }
unfolding number_at number_or
drawn_outage o = refl

pub listed_drawn : (o : LinkOutage) → has_unlisted outage_fields (outage_table o) ≡ false
unfolding has_unlisted is_listed outage_fields
listed_drawn o = refl

pub whole_drawn : (o : LinkOutage) → has_lacking outage_fields (outage_table o) ≡ false
unfolding has_lacking is_lacking outage_fields
whole_drawn o = refl

pub typed_drawn : (o : LinkOutage) → has_mistyped outage_fields (outage_table o) ≡ false
unfolding has_mistyped is_mistyped outage_fields
typed_drawn o = refl

-- ---- a value that is put at a key

-- a key that isn't this one is looked for past it
past : (k l : List ℕ) (a b : Option Data) → is_eq (slice_cmp nat_cmp k l) ≡ false → match_ordering (slice_cmp nat_cmp l k) a b a ≡ a
past k l a b other = go (slice_cmp nat_cmp l k) refl
  where
    go : (o : Ordering) → slice_cmp nat_cmp l k ≡ o → match_ordering o a b a ≡ a
    go Equal is = let both : true ≡ false = sym (ap is_eq (tied_itself nat_list_cmp_total k)) ∙ (ap (λ x. is_eq (slice_cmp nat_cmp k x)) (sym (exact_bytes l k is)) ∙ other) in cc
    go _ is = refl

pub read_put : (k : List ℕ) (d : Data) (t : Members) → get_member k (put k d t) ≡ Some d
read_put k d no_members = rw (tied_itself nat_list_cmp_total k)
read_put k d (member l e ms) = go (slice_cmp nat_cmp k l) refl (read_put k d ms)
  where
    go : (o : Ordering) → slice_cmp nat_cmp k l ≡ o → get_member k (put k d ms) ≡ Some d
        → get_member k (match_ordering o (member k d (member l e ms)) (member l d ms) (member l e (put k d ms))) ≡ Some d
    go Less is later = rw (tied_itself nat_list_cmp_total k)
    go Equal is later = rw is
    go Greater is later = rw (is, later)

pub keep_put : (k l : List ℕ) (d : Data) (t : Members) → is_eq (slice_cmp nat_cmp k l) ≡ false → get_member l (put k d t) ≡ get_member l t
keep_put k l d no_members other = past k l None (Some d) other
keep_put k l d (member m e ms) other = go (slice_cmp nat_cmp k m) refl (keep_put k l d ms other)
  where
    go : (o : Ordering) → slice_cmp nat_cmp k m ≡ o → get_member l (put k d ms) ≡ get_member l ms
        → get_member l (match_ordering o (member k d (member m e ms)) (member m d ms) (member m e (put k d ms)))
        ≡ get_member l (member m e ms)
    go Less is later = past k l (get_member l (member m e ms)) (Some d) other
    go Equal is later =
        let apart : is_eq (slice_cmp nat_cmp m l) ≡ false = ap (λ x. is_eq (slice_cmp nat_cmp x l)) (sym (exact_bytes k m is)) ∙ other in
        past m l (get_member l ms) (Some d) apart ∙ sym (past m l (get_member l ms) (Some e) apart)
    go Greater is later = ap (λ x. match_ordering (slice_cmp nat_cmp l m) x (Some e) x) later

-- some key isn't listed, if there was one that wasn't, or it is this one
pub unlisted_put : (fields : List Field) (k : List ℕ) (d : Data) (t : Members) → has_unlisted fields (put k d t) ≡ (not (is_listed fields k) || has_unlisted fields t)
unfolding has_unlisted
unlisted_put fields k d no_members = refl
unlisted_put fields k d (member l e ms) = go (slice_cmp nat_cmp k l) refl (unlisted_put fields k d ms)
  where
    absorbs : (a b : Bool) → (a || b) ≡ (a || (a || b))
    absorbs true b = refl
    absorbs false b = refl

    swapped : (a b c : Bool) → (a || (b || c)) ≡ (b || (a || c))
    swapped true true c = refl
    swapped true false c = refl
    swapped false b c = refl

    bad : List ℕ → Bool
    bad key = not (is_listed fields key)

    go : (o : Ordering) → slice_cmp nat_cmp k l ≡ o → list_any bad (keys_of (put k d ms)) ≡ (bad k || list_any bad (keys_of ms))
        → list_any bad (keys_of (match_ordering o (member k d (member l e ms)) (member l d ms) (member l e (put k d ms)))) ≡ (bad k || (bad l || list_any bad (keys_of ms)))
    go Less is later = refl
    go Equal is later = absorbs (bad l) (list_any bad (keys_of ms)) ∙ ap (λ x. bad x || (bad l || list_any bad (keys_of ms))) (sym (exact_bytes k l is))
    go Greater is later = ap (λ b. bad l || b) later ∙ swapped (bad l) (bad k) (list_any bad (keys_of ms))

-- a key that is there and isn't listed
pub unlisted_there : (fields : List Field) (k : List ℕ) (t : Members) → is_listed fields k ≡ false → is_some (get_member k t) ≡ true → has_unlisted fields t ≡ true
unfolding has_unlisted
unlisted_there fields k no_members other there = cc
unlisted_there fields k (member l e ms) other there = go (slice_cmp nat_cmp k l) refl (unlisted_there fields k ms other) there
  where
    bad : List ℕ → Bool
    bad key = not (is_listed fields key)

    go : (o : Ordering) → slice_cmp nat_cmp k l ≡ o → (is_some (get_member k ms) ≡ true → list_any bad (keys_of ms) ≡ true)
        → is_some (match_ordering o (get_member k ms) (Some e) (get_member k ms)) ≡ true → (bad l || list_any bad (keys_of ms)) ≡ true
    go Equal is rest here = ap (λ x. not (is_listed fields x) || list_any bad (keys_of ms)) (sym (exact_bytes k l is)) ∙ ap (λ b. not b || list_any bad (keys_of ms)) other
    go _ is rest here = ap (λ b. bad l || b) (rest here) ∙ or-true (bad l)

-- ---- tables of an array

pub all_tables : (ts : List Members) → all_items is_table (items_of (map table ts)) ≡ true
all_tables [] = refl
all_tables (t ∷ ts) = all_tables ts

pub back : (ts : List Members) → the_tables (items_of (map table ts)) ≡ ts
back [] = refl
back (t ∷ ts) = ap (λ us. t ∷ us) (back ts)

pub none_drawn : (p : Members → Bool) → ((o : LinkOutage) → p (outage_table o) ≡ false) → (os : List LinkOutage) → list_any p (map outage_table os) ≡ false
none_drawn p good [] = refl
none_drawn p good (o ∷ os) = rw (good o) (none_drawn p good os)

-- ---- drawn outages, one after the other

module _ (drawn : List LinkOutage) (i : ℕ) (o : LinkOutage) (low : i < length drawn) (is : o ≡ get_or drawn i o) where
  pub drawn_more : map outage_table (take (i + 1) drawn) ≡ map outage_table (take i drawn) ++ outage_table o ∷ []
  drawn_more =
      ap (map outage_table) (take_more drawn i o low)
      ∙ (map-append outage_table (take i drawn) (get_or drawn i o ∷ []) ∙ ap (λ x. map outage_table (take i drawn) ++ outage_table x ∷ []) (sym is))

  pub bad_among : (bad : Members → Bool) → bad (outage_table o) ≡ true → list_any bad (map outage_table drawn) ≡ true
  bad_among bad e =
      let its : get_or (map outage_table drawn) i (outage_table o) ≡ outage_table o = get_or-map outage_table drawn i o (outage_table o) low ∙ ap outage_table (sym is) in
      list_any_at bad (map outage_table drawn) i (outage_table o) (simp length-map low) (ap bad its ∙ e)

  pub good_more : (bad : Members → Bool) → list_any bad (map outage_table (take i drawn)) ≡ false → bad (outage_table o) ≡ false → list_any bad (map outage_table (take (i + 1) drawn)) ≡ false
  good_more bad none good = rw (drawn_more, list_any-append, none, good) refl
