use Rattle.study.proofs.{Basics.{◌≡◌, ◌∙◌, ◌++◌, ap, sym, map, take, drop, length, Bor, List, length-map, Path, path_of, first_again, all_keys, Key}, Parts.{parted}}
use Rattle.study.proofs.grid.Grid.set_twice.Goals as goal

pub returns : goal.returns
returns c =
    let path : Bor Key → Path = λ k. path_of k.now in
    let keys = c.add_assigned.new.all.items in
    let of_axes = c.in_ok-keys.keys.items in
    let axes : List Path = all_keys c.args.self.now in
    let set : List Path = map (λ a. path_of a.key) c.args.assignments.now in
    let all : map path of_axes ≡ axes =
    c.in_ok-keys.ensures ∙ rw (c.varied.ensures.keys, c.over.ensures.keys, c.dealt.ensures.keys) in
    let count : c.len-of_axes.result ≡ length axes =
    c.len-of_axes.ensures ∙ (c.in_ok-keys.keys.ok.0 ∙ (sym (length-map of_axes path) ∙ ap length all)) in
    let parts = parted path keys axes set (c.in_ok-add_assigned.ensures ∙ ap (λ ps. ps ++ set) all) in
    let from = c.len-of_axes.result in
    c.first_again.ensures
    ∙ (ap (λ ks. first_again (map path (take from ks)) (map path (drop from ks))) c.deref.ensures.value
    ∙ (ap (λ n. first_again (map path (take n keys)) (map path (drop n keys))) count
    ∙ (ap (λ ps. first_again ps (map path (drop (length axes) keys))) parts.0 ∙ ap (first_again axes) parts.1)))
