-- `text::digests::digest` meets its contract: the library's fold is the hash of the bytes, one after another.
use Rattle.std.proofs.Common.{◌≡◌, ℕ, List, [], ◌∷◌, refl, ◌∙◌, fold, rules}
use Rattle.text.specs.Digest.{mixed, hash_from, digest_of}
use Rattle.text.proofs.digests.digest.Goals as goal

folded : (hash : ℕ) (s : List ℕ) → fold mixed hash s ≡ hash_from hash s
folded hash [] = refl
folded hash (b ∷ s) = folded (mixed hash b) s

pub returns : goal.returns
unfolding digest_of
returns c = let s = c.args.bytes.now in
    let e : c.fold.result ≡ fold mixed 2166136261 s = search rules in e ∙ folded 2166136261 s
