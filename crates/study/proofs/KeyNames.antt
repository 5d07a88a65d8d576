-- Keys as words, alone and one after the other.
use Rattle.study.proofs.Basics.{◌≡◌, ◌≢◌, ℕ, zero, suc, ◌^◌, ◌≤◌, ◌<◌, List, [], ◌∷◌, ◌++◌, append_assoc, length, length-append, get_or, Bool, true, false, not, ◌==◌, codes, decimal, Option, Some, None, Result, Ok, Err, Bor, MatchOption, IfErr, IsErrAnd, refl, sym, ◌∙◌, ap, subst, inl, inr, arith, lit<, ◌+◌, map, take, and_parts, and_from, eq-eqb, ne_eqb, false≢true, append_cancel_right, get_or_at, map_more, map_push, All-append, list_all_at, IsSplitOnceResult, split_after, split_parts, is_ascii_digit, FilePath, top, inner, element, every, Path, scenario, network, file_key_text, key_text, path_of, Word, is_natural, natural, Key}
use Rattle.study.proofs.Numerals.{own, natural_digits, natural_some}
use Rattle.std.proofs.lemmas.Fmt.{decimal-digits_value, digits_decimal, digits_value-decimal, decimal_nonempty, first_decimal, decimal_digit}
use Rattle.std.specs.List.{All, list_all, AllZip}
use Rattle.study.specs.{KeyWords.{is_name_byte, is_name, IsPlace, IsPlaceOf, IsInArray, HasFileNames, HasNames, SaysNoKey, is_memory, SaysKey, SayNoKeys}, Inside.Private.{is_place, HasNoPlace, IsListed, IsOwner, IsNetworkText}}
use Rattle.study.specs.declared.error.KeyError.{KeyError}
use Rattle.study.specs.declared.error.KeyError.TheVariants as error
use Rattle.network.proofs.ArrayTables.{AllZip-more}

-- ---- bytes that a word lacks

abbrev Lacks : ℕ → Word → Type 0
Lacks c = All (λ b. b ≢ c)

lacks_from : (p : ℕ → Bool) (c : ℕ) → p c ≡ false → (w : Word) → list_all p w ≡ true → Lacks c w
lacks_from p c other w all i d within e = false≢true (sym (list_all_at p w i d within (ap p e ∙ other)) ∙ all)

name_lacks : (c : ℕ) → is_name_byte c ≡ false → (w : Word) → is_name w ≡ true → Lacks c w
name_lacks c other w is = lacks_from is_name_byte c other w (and_parts (not (length w == 0)) (list_all is_name_byte w) is).1

-- a word that has the byte doesn't lack it
found : (c : ℕ) (u v w : Word) → Lacks c u → u ≡ v ++ (c ∷ w) → ⊥
found c u v w lacks e =
    lacks (length v) 0 (omega (arith, ap length e, length-append v (c ∷ w)))
    (ap (λ x. get_or x (length v) 0) e ∙ get_or_at v c w 0 (length v) refl)

-- ---- places

place_decimal : (w : Word) → is_place w ≡ true → natural w < 2 ^ 64 → (1 ≤ natural w) × (w ≡ decimal (natural w))
place_decimal w is small = (from_one (natural w) refl, sym spelled)
  where
    parts : (not (get_or w 0 0 == 48) ≡ true) × (is_natural w ≡ true)
    parts = and_parts (not (get_or w 0 0 == 48)) (is_natural w) is

    no_zero : get_or w 0 0 ≢ 48
    no_zero e = false≢true (sym (ap not (eq-eqb (get_or w 0 0) 48 e)) ∙ parts.0)

    spelled : decimal (natural w) ≡ w
    spelled = decimal-digits_value own w (natural_digits w parts.1) (natural_some w parts.1) (λ e. absurd (no_zero e)) small

    from_one : (n : ℕ) → natural w ≡ n → 1 ≤ n
    from_one zero e = absurd (no_zero (ap (λ x. get_or x 0 0) (sym spelled ∙ (ap decimal e ∙ decimal_digit 0 (omega arith)))))
    from_one (suc n) e = omega arith

decimal_place : (n : ℕ) → 1 ≤ n → n < 2 ^ 64 → is_place (decimal n) ≡ true
decimal_place n low small =
    let first : 48 < get_or (decimal n) 0 0 = first_decimal n (omega arith) small in
    let some : 0 < length (decimal n) = decimal_nonempty n small in
    and_from (not (get_or (decimal n) 0 0 == 48)) (is_natural (decimal n))
    (ap not (ne_eqb (get_or (decimal n) 0 0) 48 (omega arith)))
    (and_from (not (length (decimal n) == 0)) (list_all is_ascii_digit (decimal n))
    (ap not (ne_eqb (length (decimal n)) 0 (omega arith))) (digits_decimal own n small))

-- a word with a bracket at its end, by what stands before it
pub place_none : (word digits : Word) → word ≡ digits ++ codes "]" → is_place digits ≡ false → HasNoPlace word
place_none word digits is none place low small e =
    let same : digits ≡ decimal place = append_cancel_right digits (decimal place) (codes "]") (sym is ∙ e) in
    false≢true (sym none ∙ (ap is_place same ∙ decimal_place place low small))

pub read_place : (word digits : Word) (r : Option ℕ) → word ≡ digits ++ codes "]" → is_place digits ≡ true
    → MatchOption r (2 ^ 64 ≤ natural digits) (λ n. (n ≡ natural digits) × (n < 2 ^ 64))
    → MatchOption r (HasNoPlace word) (IsPlaceOf word)
read_place word digits None is place large = λ n low small e.
    let same : digits ≡ decimal n = append_cancel_right digits (decimal n) (codes "]") (sym is ∙ e) in
    let value : natural digits ≡ n = ap natural same ∙ digits_value-decimal own n small in
    omega arith
read_place word digits (Some n) is place number =
    let same : n ≡ natural digits = number.0 in
    let (low, spelled) = place_decimal digits place (omega (arith, number.1)) in
    (omega arith, number.1, is ∙ ap (λ d. d ++ codes "]") (spelled ∙ ap decimal (sym same)))

-- ---- splits of a key

at_some : {X : Type 0} {Q R : X → Type 0} (P : Type 0) (r : Option X) → MatchOption r ⊥ Q → ((x : X) → Q x → R x)
    → MatchOption r P R
at_some P None h more = absurd h
at_some P (Some x) h more = more x h

element_split : (a d k : Word) → a ++ codes "[" ++ d ++ codes "]." ++ k ≡ (a ++ (91 ∷ (d ++ codes "]"))) ++ (46 ∷ k)
element_split a d k = simp append_assoc

every_split : (a k : Word) → a ++ codes "[*]." ++ k ≡ (a ++ (91 ∷ codes "*]")) ++ (46 ∷ k)
every_split a k = simp append_assoc

no_dot : (w : Word) → list_all (λ b. not (b == 46)) w ≡ true → Lacks 46 w
no_dot = lacks_from (λ b. not (b == 46)) 46 refl

joined : (v w : Word) → Lacks 46 v → Lacks 46 w → Lacks 46 (v ++ w)
joined = All-append (λ b. b ≢ 46)

-- an array's name with a place in brackets
listed : (a p : Word) → is_name a ≡ true → IsPlace p → IsListed (a ++ (91 ∷ p))
listed a p name is = record { array = a; place = p; named = name; placed = is; text = refl }

place_lacks : (p : Word) → IsPlace p → Lacks 46 p
place_lacks p (inl at) =
    subst (Lacks 46) (sym at.1.2) (joined (decimal at.0) (codes "]")
    (lacks_from is_ascii_digit 46 refl (decimal at.0) (digits_decimal own at.0 at.1.1)) (no_dot (codes "]") refl))
place_lacks p (inr all) = subst (Lacks 46) (sym all) (no_dot (codes "*]") refl)

listed_lacks : (a p : Word) → is_name a ≡ true → IsPlace p → Lacks 46 (a ++ (91 ∷ p))
listed_lacks a p name is =
    joined a (91 ∷ p) (name_lacks 46 refl a name) (joined (91 ∷ []) p (no_dot (91 ∷ []) refl) (place_lacks p is))

-- a word that a key of a table of an array is written as, split at its first dot
split_element : (w a p k : Word) (r : Option (Bor (List ℕ) × Bor (List ℕ))) → IsSplitOnceResult 46 w r → is_name a ≡ true
    → IsPlace p → is_name k ≡ true → w ≡ (a ++ (91 ∷ p)) ++ (46 ∷ k)
    → MatchOption r ⊥ (λ x. IsListed x.0.now × (is_name x.1.now ≡ true))
split_element w a p k r split name is key e =
    at_some ⊥ r (split_after 46 w (a ++ (91 ∷ p)) k r split (lit< tt) e (λ i. listed_lacks a p name is i 0))
    (λ x h. (subst IsListed (sym h.0) (listed a p name is), ap is_name h.1 ∙ key))

split_listed : (w : Word) (p : FilePath) (r : Option (Bor (List ℕ) × Bor (List ℕ))) → IsSplitOnceResult 46 w r → IsInArray p
    → HasFileNames p → w ≡ file_key_text p → MatchOption r ⊥ (λ x. IsListed x.0.now × (is_name x.1.now ≡ true))
split_listed w (element a i k) r split is names e =
    split_element w a (decimal i ++ codes "]") k r split names.0 (inl (i, (names.1, names.2, refl))) names.3
    (e ∙ element_split a (decimal i) k)
split_listed w (every a k) r split is names e =
    split_element w a (codes "*]") k r split names.0 (inr refl) names.1 (e ∙ every_split a k)
split_listed w (top k) r split is names e = absurd is
split_listed w (inner t k) r split is names e = absurd is

owned : (w : Word) (r : Option (Bor (List ℕ) × Bor (List ℕ)))
    → MatchOption r ⊥ (λ x. IsListed x.0.now × (is_name x.1.now ≡ true))
    → MatchOption r (is_name w ≡ true) (λ x. IsOwner x.0.now × (is_name x.1.now ≡ true))
owned w r is = at_some (is_name w ≡ true) r is (λ x h. (inr h.0, h.1))

-- a word that a key of the scenario's file is written as, split at its first dot
split_named : (w : Word) (p : FilePath) (r : Option (Bor (List ℕ) × Bor (List ℕ))) → IsSplitOnceResult 46 w r
    → HasFileNames p → w ≡ file_key_text p
    → MatchOption r (is_name w ≡ true) (λ x. IsOwner x.0.now × (is_name x.1.now ≡ true))
split_named w (top k) None split names e = ap is_name e ∙ names
split_named w (top k) (Some x) split names e =
    absurd (found 46 w x.0.now x.1.now (subst (Lacks 46) (sym e) (name_lacks 46 refl k names))
    (split_parts 46 w (Some x) split (lit< tt)).0)
split_named w (inner t k) r split names e =
    at_some (is_name w ≡ true) r (split_after 46 w t k r split (lit< tt) (e ∙ append_assoc t (codes ".") k)
    (λ i. name_lacks 46 refl t names.0 i 0)) (λ x h. (inl (ap is_name h.0 ∙ names.0), ap is_name h.1 ∙ names.1))
split_named w (element a i k) r split names e = owned w r (split_listed w (element a i k) r split tt names e)
split_named w (every a k) r split names e = owned w r (split_listed w (every a k) r split tt names e)

-- a word that a key of the network's file is written as, split at its first dot
split_network : (w : Word) (p : FilePath) (r : Option (Bor (List ℕ) × Bor (List ℕ))) → IsSplitOnceResult 46 w r
    → w ≡ key_text (network p) → MatchOption r ⊥ (λ x. (x.0.now ≡ codes "network") × (x.1.now ≡ file_key_text p))
split_network w p r split e =
    split_after 46 w (codes "network") (file_key_text p) r split (lit< tt) e (λ i. no_dot (codes "network") refl i 0)

-- what stands before a key's dot, split at its first bracket
split_owner : (w : Word) (r : Option (Bor (List ℕ) × Bor (List ℕ))) → IsSplitOnceResult 91 w r → IsListed w
    → MatchOption r ⊥ (λ x. (is_name x.0.now ≡ true) × IsPlace x.1.now)
split_owner w r split is =
    at_some ⊥ r (split_after 91 w is.array is.place r split (lit< tt) is.text (λ k. name_lacks 91 refl is.array is.named k 0))
    (λ x h. (ap is_name h.0 ∙ is.named, subst IsPlace (sym h.1) is.placed))

-- ---- answers

pub carried : {A E : Type 0} (P : E → Type 0) (r : Result A E) (x : E) → IsErrAnd r (λ y. y ≡ x) → P x → IfErr r P
carried P (Ok a) x e p = tt
carried P (Err y) x e p = subst P (sym e) p

-- an error of a part is one of the whole
pub refused_by : {A : Type 0} {P Q : Type 0} (r : Result A KeyError) → (P → Q)
    → IfErr r (λ e. is_memory e ≡ false → (e ≡ error.NoKey) × P) → IfErr r (λ e. is_memory e ≡ false → (e ≡ error.NoKey) × Q)
refused_by (Ok a) more h = tt
refused_by (Err e) more h = λ other. ((h other).0, more (h other).1)

pub no_list : (w : Word) → IsSplitOnceResult 91 w None → IsListed w → ⊥
no_list w split is = split_owner w None split is

pub no_table : (w : Word) → IsSplitOnceResult 91 w None → is_name w ≡ false → IsOwner w → ⊥
no_table w split none (inl name) = false≢true (sym none ∙ name)
no_table w split none (inr is) = split_owner w None split is

module _ (w : Word) (array place : Bor (List ℕ)) (split : IsSplitOnceResult 91 w (Some (array, place))) where
  pub in_list : IsListed w → (is_name array.now ≡ true) × IsPlace place.now
  in_list is = split_owner w (Some (array, place)) split is

  pub in_owner : IsOwner w → (is_name array.now ≡ true) × IsPlace place.now
  in_owner (inl name) =
      absurd (found 91 w array.now place.now (name_lacks 91 refl w name) (split_parts 91 w (Some (array, place)) split (lit< tt)).0)
  in_owner (inr is) = in_list is

-- a word with a dot
pub dotted : (w owner key : Word) → w ≡ owner ++ (46 ∷ key) → is_name w ≡ false
dotted w owner key e = none (is_name w) refl
  where
    none : (b : Bool) → is_name w ≡ b → is_name w ≡ false
    none true is = absurd (found 46 w owner key (name_lacks 46 refl w is) e)
    none false is = is

pub no_network : (rest : Word) → IsSplitOnceResult 46 rest None → IsNetworkText rest → ⊥
no_network rest split is = split_listed rest is.0 None split is.1.0 is.1.1.0 is.1.1.1

pub network_parts : (rest : Word) (owner key : Bor (List ℕ)) → IsSplitOnceResult 46 rest (Some (owner, key))
    → IsNetworkText rest → IsListed owner.now × (is_name key.now ≡ true)
network_parts rest owner key split is = split_listed rest is.0 (Some (owner, key)) split is.1.0 is.1.1.0 is.1.1.1

-- a word that is refused as no key says none
no_key : (w : Word) (e : KeyError)
    → (is_memory e ≡ false → (e ≡ error.NoKey) × ((p : Path) → HasNames p → w ≢ key_text p)) → SaysNoKey w e
no_key w (error.Memory m) refused = tt
no_key w error.NoKey refused = (refused refl).1
no_key w error.Seed refused = absurd (let both : error.Seed ≡ error.NoKey = (refused refl).0 in cc)

pub top_refused : (w : Word) (e : KeyError) → IsSplitOnceResult 46 w None
    → (is_memory e ≡ false → (e ≡ error.NoKey) × (is_name w ≡ false)) → SaysNoKey w e
top_refused w e split refused = no_key w e (λ other. let none = refused other in (none.0, no_path none.1))
  where
    no_path : is_name w ≡ false → (p : Path) → HasNames p → w ≢ key_text p
    no_path none (scenario p) names is = false≢true (sym none ∙ split_named w p None split names is)
    no_path none (network p) names is = split_network w p None split is

module _ (w : Word) (owner rest : Bor (List ℕ)) (split : IsSplitOnceResult 46 w (Some (owner, rest)))
    (no_scenario : IsOwner owner.now → is_name rest.now ≡ false)
    (none : owner.now ≡ codes "network" → IsNetworkText rest.now → ⊥) where
  no_path : (p : Path) → HasNames p → w ≢ key_text p
  no_path (scenario p) names is =
      let parts = split_named w p (Some (owner, rest)) split names is in
      false≢true (sym (no_scenario parts.0) ∙ parts.1)
  no_path (network p) names is =
      let parts = split_network w p (Some (owner, rest)) split is in
      none parts.0 (p, (names.0, (names.1, parts.1)))

pub dotted_refused : {A : Type 0} (w : Word) (owner rest : Bor (List ℕ)) (r : Result A KeyError)
    → IsSplitOnceResult 46 w (Some (owner, rest))
    → IfErr r (λ e. is_memory e ≡ false → (e ≡ error.NoKey) × (IsOwner owner.now → is_name rest.now ≡ false))
    → IfErr r (λ e. is_memory e ≡ false → owner.now ≡ codes "network" → IsNetworkText rest.now → ⊥)
    → IfErr r (SaysNoKey w)
dotted_refused w owner rest (Ok k) split no_scenario none = tt
dotted_refused w owner rest (Err e) split no_scenario none =
    no_key w e (λ other. let refused = no_scenario other in
    (refused.0, no_path w owner rest split refused.1 (none other)))

pub every_written : (array place key a k : Word) → place ≡ codes "*]" → a ≡ array → k ≡ key
    → (array ++ (91 ∷ place)) ++ (46 ∷ key) ≡ a ++ codes "[*]." ++ k
every_written array place key a k star same_array same_key =
    rw (star, same_array, same_key) (sym (every_split array key))

pub network_text : (owner rest array key : Word) (p : FilePath) → owner ≡ codes "network" → rest ≡ array ++ (46 ∷ key)
    → array ++ (46 ∷ key) ≡ file_key_text p → owner ++ (46 ∷ rest) ≡ key_text (network p)
network_text owner rest array key p same split text =
    ap (λ o. o ++ (46 ∷ rest)) same ∙ ap (λ r. codes "network" ++ (46 ∷ r)) (split ∙ text)

-- ---- words that say keys

-- one more word says one more key
pub key_more : (ws : List (Bor (List ℕ))) (i : ℕ) (d : Bor (List ℕ)) (old new : List Key) (key : Key) → i < length ws
    → AllZip SaysKey (map (λ x. x.now) (take i ws)) (map path_of old) → SaysKey (get_or ws i d).now (path_of key)
    → new ≡ old ++ (key ∷ []) → AllZip SaysKey (map (λ x. x.now) (take (i + 1) ws)) (map path_of new)
key_more ws i d old new key within so_far says pushed =
    rw (map_more (λ x. x.now) ws i d within, pushed, map_push path_of old key)
    (AllZip-more SaysKey (map (λ x. x.now) (take i ws)) (map path_of old) (get_or ws i d).now (path_of key) so_far says)

-- a word says none, and those before it say some
pub key_fails : (ws : List (Bor (List ℕ))) (i : ℕ) (d : Bor (List ℕ)) (ps : List Path) (e : KeyError) → i < length ws
    → AllZip SaysKey (map (λ x. x.now) (take i ws)) ps → SaysNoKey (get_or ws i d).now e → SayNoKeys (map (λ x. x.now) ws) e
key_fails [] i d ps e within said none = absurd (omega arith)
key_fails (w ∷ ws) zero d ps e within said none = inl none
key_fails (w ∷ ws) (suc i) d [] e within said none = absurd said
key_fails (w ∷ ws) (suc i) d (p ∷ ps) e within said none = inr ((p, said.0), key_fails ws i d ps e (omega arith) said.1 none)
