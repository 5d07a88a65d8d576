-- Words that say blocks of pairs, up to the first that says none.
use Rattle.sweep.proofs.Words.{◌≡◌, ℕ, ◌+◌, ◌<◌, Result, Ok, Err, List, [], ◌∷◌, ◌++◌, length, map, take, drop, get_or, sym, ap, ◌∙◌, arith, All, drop_more, length-map, map_more, map_push, take-append-drop, get_or-map, IsOk, is_ok, Word, SayBlocks, SayNoBlocks, block_said}
use Rattle.sweep.specs.declared.{error.GroupError.{GroupError}, group.PairBlock.{PairBlock}}
use Rattle.sweep.specs.declared.error.GroupError.TheVariants as error

module _ (words : List Word) (i : ℕ) (blocks : List PairBlock) (lt : i < length words) (said : SayBlocks (take i words) blocks) where
  -- one more word, which says a block
  pub one_more : (block : PairBlock) → block_said (get_or words i []) ≡ Ok block → SayBlocks (take (i + 1) words) (blocks ++ block ∷ [])
  one_more block at =
      map_more block_said words i [] lt ∙ ap (λ l. l ++ block_said (get_or words i []) ∷ []) said
      ∙ ap (λ r. map Ok blocks ++ r ∷ []) at ∙ sym (map_push Ok blocks block)

  some_block : PairBlock
  some_block = record { observers = record { first = 0; last = 0 }; subjects = record { first = 0; last = 0 } }

  all_said : All (λ w. IsOk (block_said w)) (take i words)
  all_said k d below =
      let len : length (take i words) ≡ length blocks = sym (length-map (take i words) block_said) ∙ ap length said ∙ length-map blocks Ok in
      let there : k < length blocks = omega (arith, below, len) in
      let none : Result PairBlock GroupError = Err error.NoGroup in
      ap is_ok (sym (get_or-map block_said (take i words) k d none below) ∙ ap (λ l. get_or l k none) said ∙ get_or-map Ok blocks k some_block none there)

  -- the next says none
  pub none_said : (e : GroupError) → block_said (get_or words i []) ≡ Err e → SayNoBlocks words e
  none_said e at = record {
    before = take i words;
    word = get_or words i [];
    after = drop (i + 1) words;
    words_are = sym (take-append-drop i words) ∙ ap (λ l. take i words ++ l) (drop_more words i [] lt);
    said = all_said;
    fault = at;
  }
