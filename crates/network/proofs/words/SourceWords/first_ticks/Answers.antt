use Rattle.network.proofs.{Basics.{◌≡◌, ℕ, ◌%◌, ◌∙◌, ap, length, slice_index, after, first_ticks_of, first_words_taken, to_come}, Coming.{after-after, after-first}}
use Rattle.network.proofs.words.SourceWords.first_ticks.Goals as goal

pub returns-in-Values-clause-value : goal.returns-in-Values-clause-value
unfolding first_ticks_of
returns-in-Values-clause-value c =
    let words = to_come c.args.self.now in
    let second : c.next-in-Values.result ≡ words 1 =
    c.next-in-Values.ensures.value ∙ (ap (λ (w : ℕ → ℕ). w 0) c.pick-value.ensures.rest ∙ after-first 1 words) in
    let items : c.deref.result.now ≡ c.in-Values.values.items = cc in
    let first : c.pick-value.result ≡ slice_index c.in-Values.values.items (words 0 % length c.in-Values.values.items) =
    c.pick-value.ensures.value ∙ ap (λ xs. slice_index xs (words 0 % length xs)) items in
    rw c.in-Values.is (λ i. second i % first i)

pub returns-in-Values-clause-rest : goal.returns-in-Values-clause-rest
unfolding first_words_taken
returns-in-Values-clause-rest c =
    let words = to_come c.args.self.now in
    rw c.in-Values.is (c.next-in-Values.ensures.rest ∙ (ap (after 1) c.pick-value.ensures.rest ∙ after-after 1 1 words))
