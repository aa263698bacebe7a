-- `words::blank` meets its contract: the words are 0 where their bytes, gathered, are.
use Rattle.std.proofs.Common.{◌≡◌, ◌+◌, ◌*◌, ◌-◌, rules, take, drop, bit_or}
use Rattle.std.specs.List.{fold}
use Rattle.forms.proofs.Blank.{blank-gathered}
use Rattle.forms.proofs.words.blank.Goals as goal

pub returns : goal.returns
returns c =
    let a = c.args in
    let all : c.fold.result ≡ fold (λ x y. bit_or x y) 0 (take (a.at + 2 * a.n - a.at) (drop a.at a.s.now)) = search rules in
    rw all (blank-gathered a.s.now a.at a.n c.requires)
