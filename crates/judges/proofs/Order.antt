-- Rising keys have rising ticks.
use Rattle.judges.proofs.Words.{◌≡◌, ℕ, suc, ◌<◌, true, refl, sym, ap, ◌∙◌, List, [], ◌∷◌, ◌++◌, take, drop, length, get_or, Ordering, Less, Equal, Greater, list_all, take-append-drop, list_all-append, and_parts, and_from, is_less, is_before, is_rising, EntryRecord, ticks_rise}
use Rattle.{std.proofs.Math.Seq.{drop-cons}, judges.specs.Pairs.{AreUntil}}

pub less_from : (o : Ordering) → is_less o ≡ true → o ≡ Less
less_from Less e = refl
less_from Equal e = absurd (cc)
less_from Greater e = absurd (cc)

-- the entries before one of a rising list
pub before_one : (xs : List EntryRecord) (e : EntryRecord) (ys : List EntryRecord) → is_rising (xs ++ e ∷ ys) ≡ true → AreUntil xs e.key.tick
before_one [] e ys h = tt
before_one (x ∷ xs) e ys h =
    let parts = and_parts (list_all (λ f. is_before x.key f.key) (xs ++ e ∷ ys)) (is_rising (xs ++ e ∷ ys)) h in
    let here = and_parts (list_all (λ f. is_before x.key f.key) xs) (list_all (λ f. is_before x.key f.key) (e ∷ ys)) (sym (list_all-append (λ f. is_before x.key f.key) xs (e ∷ ys)) ∙ parts.0) in
    let first = and_parts (is_before x.key e.key) (list_all (λ f. is_before x.key f.key) ys) here.1 in
    (ticks_rise x.key e.key (less_from _ first.0), before_one xs e ys parts.1)

pub before_at : (trace : List EntryRecord) (i : ℕ) (d : EntryRecord) → i < length trace → is_rising trace ≡ true → AreUntil (take i trace) (get_or trace i d).key.tick
before_at trace i d l h =
    before_one (take i trace) (get_or trace i d) (drop (suc i) trace)
    (ap is_rising (ap (λ ys. take i trace ++ ys) (sym (drop-cons trace i d l)) ∙ take-append-drop i trace) ∙ h)

-- a front of a rising list rises
pub rising_front : (xs ys : List EntryRecord) → is_rising (xs ++ ys) ≡ true → is_rising xs ≡ true
rising_front [] ys h = refl
rising_front (x ∷ xs) ys h =
    let parts = and_parts (list_all (λ f. is_before x.key f.key) (xs ++ ys)) (is_rising (xs ++ ys)) h in
    let here = and_parts (list_all (λ f. is_before x.key f.key) xs) (list_all (λ f. is_before x.key f.key) ys) (sym (list_all-append (λ f. is_before x.key f.key) xs ys) ∙ parts.0) in
    and_from _ _ here.0 (rising_front xs ys parts.1)
