use Rattle.study.proofs.{Basics.{◌≡◌, ◌++◌, [], map, drop, length, min, sym, ap, ◌∙◌, rules, arith, length-drop, length-map, append-nil, chosen, path_of, given_by, set_to}, Points.{none_set}}
use Rattle.std.proofs.lemmas.Slice.Zip.{zip_end}
use Rattle.study.proofs.combination.push_choices.Goals as goal

pub returns : goal.returns
returns c =
    let n = length c.loop-key.yielded in
    let all : length c.loop-key.yielded ≡ min (length c.args.keys.now) (length c.args.settings.now) =
    zip_end c.args.keys.now c.args.settings.now c.loop-key.yielded c.into_iter-key-iterator.result
    c.loop-key.key-iterator c.next.new.self c.next.result (search rules) (search rules) c.loop-key.yielded_by
    c.in-None.is c.next.ensures.steps in
    let none : set_to (map path_of (drop n c.args.keys.now)) (map given_by (drop n c.args.settings.now)) ≡ [] =
    none_set (map path_of (drop n c.args.keys.now)) (map given_by (drop n c.args.settings.now)) (omega (
      arith,
      length-map (drop n c.args.keys.now) path_of,
      length-map (drop n c.args.settings.now) given_by,
      length-drop n c.args.keys.now,
      length-drop n c.args.settings.now,
    )) in
    sym (append-nil (map chosen c.loop-key.picked.items))
    ∙ (ap (λ xs. map chosen c.loop-key.picked.items ++ xs) (sym none) ∙ c.loop-key.invariant)
