-- The same bytes are one request: its call, the slices that it has, and where it ends.
-- Assumes nothing.
use Rattle.std.proofs.Common.{◌≡◌, ℕ, ◌<◌, ◌≤◌, ◌^◌, Bool, true, false, List, [], ◌∷◌, ◌++◌, length, take, Option, None, Some, refl, sym, ap, subst, ◌∙◌, append_assoc, arith, length-take-le}
use Rattle.std.specs.Io.KnownBytes.{Consumes}
use Rattle.model.specs.Tab.{one_if}
use Rattle.menuask.specs.declared.call.Call.{Call}
use Rattle.menuask.specs.declared.call.Call.TheVariants as call
use Rattle.menuask.specs.declared.request.Request.{Request}
use Rattle.menuask.specs.Requests.{number_bytes, slice_bytes, both_bytes, flag_bytes, event_bytes, bytes_of, code_of, IsCall, HasNoOther, NoRequest}
use Rattle.menuask.proofs.Begins.{same-slice, same-number, flag-small}

empty : (l : List ℕ) → length l ≡ 0 → [] ≡ l
empty [] none = refl
empty (x ∷ l) none = absurd (omega arith)

one-empty : (l m : List ℕ) → length l ≡ 0 → length m ≡ 0 → l ≡ m
one-empty l m none none' = sym (empty l none) ∙ empty m none'

same-flag : (a b : Bool) (c d : List ℕ) → flag_bytes a ++ c ≡ flag_bytes b ++ d → (a ≡ b) × (c ≡ d)
same-flag a b c d e =
    let (value, behind) = same-number (one_if a) (one_if b) c d (flag-small a) (flag-small b) e in
    (one a b value, behind)
  where
    one : (a b : Bool) → one_if a ≡ one_if b → a ≡ b
    one true true e = refl
    one true false e = absurd (omega arith)
    one false true e = absurd (omega arith)
    one false false e = refl

-- slices whose lengths have four bytes
pub record Small (n s t : List ℕ) : Type 0 where
  pub net : length n < 2 ^ 32
  pub state : length s < 2 ^ 32
  pub third : length t < 2 ^ 32

-- what is the same of two requests, and behind them
pub record Same (a b : Call) (n s t n' s' t' c d : List ℕ) : Type 0 where
  pub call : a ≡ b
  pub net : n ≡ n'
  pub state : s ≡ s'
  pub third : t ≡ t'
  pub behind : c ≡ d

pub record SameBoth (n s n' s' c d : List ℕ) : Type 0 where
  pub net : n ≡ n'
  pub state : s ≡ s'
  pub behind : c ≡ d

same-both : (n s n' s' c d : List ℕ) → length n < 2 ^ 32 → length s < 2 ^ 32 → length n' < 2 ^ 32 → length s' < 2 ^ 32
    → both_bytes n s ++ c ≡ both_bytes n' s' ++ d → SameBoth n s n' s' c d
same-both n s n' s' c d nf sf nf' sf' e =
    let (net, rest) = same-slice n n' (slice_bytes s ++ c) (slice_bytes s' ++ d) nf nf'
    (sym (append_assoc (slice_bytes n) (slice_bytes s) c) ∙ e ∙ append_assoc (slice_bytes n') (slice_bytes s') d) in
    let (state, behind) = same-slice s s' c d sf sf' rest in
    record { net = net; state = state; behind = behind }

-- the parts behind one another, the last bytes taken into them
turn : (a b c : List ℕ) (a' b' d : List ℕ) → (a ++ b) ++ c ≡ (a' ++ b') ++ d → a ++ (b ++ c) ≡ a' ++ (b' ++ d)
turn a b c a' b' d e = sym (append_assoc a b c) ∙ e ∙ append_assoc a' b' d

pub record SameThree (n s t n' s' t' c d : List ℕ) : Type 0 where
  pub net : n ≡ n'
  pub state : s ≡ s'
  pub third : t ≡ t'
  pub behind : c ≡ d

same-three : (n s t n' s' t' c d : List ℕ) → Small n s t → Small n' s' t'
    → (both_bytes n s ++ slice_bytes t) ++ c ≡ (both_bytes n' s' ++ slice_bytes t') ++ d → SameThree n s t n' s' t' c d
same-three n s t n' s' t' c d m m' e =
    let both = same-both n s n' s' (slice_bytes t ++ c) (slice_bytes t' ++ d) m.net m.state m'.net m'.state
    (turn (both_bytes n s) (slice_bytes t) c (both_bytes n' s') (slice_bytes t') d e) in
    let (third, behind) = same-slice t t' c d m.third m'.third both.behind in
    record { net = both.net; state = both.state; third = third; behind = behind }

pub record SameEvent (f s : ℕ) (st : Bool) (f' s' : ℕ) (st' : Bool) (c d : List ℕ) : Type 0 where
  pub first : f ≡ f'
  pub second : s ≡ s'
  pub started : st ≡ st'
  pub behind : c ≡ d

same-event : (f s : ℕ) (st : Bool) (f' s' : ℕ) (st' : Bool) (c d : List ℕ) → f ≤ 255 → s ≤ 255 → f' ≤ 255 → s' ≤ 255
    → event_bytes f s st ++ c ≡ event_bytes f' s' st' ++ d → SameEvent f s st f' s' st' c d
same-event f s st f' s' st' c d fb sb fb' sb' e =
    let (first, rest) = same-number f f' (number_bytes s ++ (flag_bytes st ++ c)) (number_bytes s' ++ (flag_bytes st' ++ d)) (omega (arith, fb)) (omega (arith, fb'))
    (turn (number_bytes f) (number_bytes s) (flag_bytes st ++ c) (number_bytes f') (number_bytes s') (flag_bytes st' ++ d)
    (turn (number_bytes f ++ number_bytes s) (flag_bytes st) c (number_bytes f' ++ number_bytes s') (flag_bytes st') d e)) in
    let (second, rest') = same-number s s' (flag_bytes st ++ c) (flag_bytes st' ++ d) (omega (arith, sb)) (omega (arith, sb')) rest in
    let (started, behind) = same-flag st st' c d rest' in
    record { first = first; second = second; started = started; behind = behind }

pub same : (a b : Call) (n s t n' s' t' c d : List ℕ) → code_of a ≡ code_of b → IsCall a → IsCall b
    → HasNoOther a (length n) (length s) (length t) → HasNoOther b (length n') (length s') (length t')
    → Small n s t → Small n' s' t' → bytes_of a n s t ++ c ≡ bytes_of b n' s' t' ++ d → Same a b n s t n' s' t' c d
same call.CheckNet call.CheckNet n s t n' s' t' c d is x y h h' m m' e =
    let (net, behind) = same-slice n n' c d m.net m'.net e in
    record { call = refl; net = net; state = one-empty s s' h.0 h'.0; third = one-empty t t' h.1 h'.1; behind = behind }
same call.Initial call.Initial n s t n' s' t' c d is x y h h' m m' e =
    let both = same-both n s n' s' c d m.net m.state m'.net m'.state e in
    record { call = refl; net = both.net; state = both.state; third = one-empty t t' h h'; behind = both.behind }
same call.CheckState call.CheckState n s t n' s' t' c d is x y h h' m m' e =
    let both = same-both n s n' s' c d m.net m.state m'.net m'.state e in
    record { call = refl; net = both.net; state = both.state; third = one-empty t t' h h'; behind = both.behind }
same (call.Event f r st) (call.Event f' r' st') n s t n' s' t' c d is x y h h' m m' e =
    let both = same-both n s n' s' (event_bytes f r st ++ c) (event_bytes f' r' st' ++ d) m.net m.state m'.net m'.state
    (turn (both_bytes n s) (event_bytes f r st) c (both_bytes n' s') (event_bytes f' r' st') d e) in
    let event = same-event f r st f' r' st' c d x.0 x.1 y.0 y.1 both.behind in
    record { call = cc (event.first, event.second, event.started); net = both.net; state = both.state; third = one-empty t t' h h'; behind = event.behind }
same (call.Back f r st) (call.Back f' r' st') n s t n' s' t' c d is x y h h' m m' e =
    let both = same-both n s n' s' (event_bytes f r st ++ c) (event_bytes f' r' st' ++ d) m.net m.state m'.net m'.state
    (turn (both_bytes n s) (event_bytes f r st) c (both_bytes n' s') (event_bytes f' r' st') d e) in
    let event = same-event f r st f' r' st' c d x.0 x.1 y.0 y.1 both.behind in
    record { call = cc (event.first, event.second, event.started); net = both.net; state = both.state; third = one-empty t t' h h'; behind = event.behind }
same (call.Degree k) (call.Degree k') n s t n' s' t' c d is x y h h' m m' e =
    let both = same-both n s n' s' (number_bytes k ++ c) (number_bytes k' ++ d) m.net m.state m'.net m'.state
    (turn (both_bytes n s) (number_bytes k) c (both_bytes n' s') (number_bytes k') d e) in
    let (value, behind) = same-number k k' c d x y both.behind in
    record { call = ap (λ v. call.Degree v) value; net = both.net; state = both.state; third = one-empty t t' h h'; behind = behind }
same call.Owed call.Owed n s t n' s' t' c d is x y h h' m m' e =
    let both = same-both n s n' s' c d m.net m.state m'.net m'.state e in
    record { call = refl; net = both.net; state = both.state; third = one-empty t t' h h'; behind = both.behind }
same (call.Run st) (call.Run st') n s t n' s' t' c d is x y h h' m m' e =
    let three = same-three n s t n' s' t' (flag_bytes st ++ c) (flag_bytes st' ++ d) m m'
    (turn (both_bytes n s ++ slice_bytes t) (flag_bytes st) c (both_bytes n' s' ++ slice_bytes t') (flag_bytes st') d e) in
    let (started, behind) = same-flag st st' c d three.behind in
    record { call = ap (λ v. call.Run v) started; net = three.net; state = three.state; third = three.third; behind = behind }
same (call.Walk k st) (call.Walk k' st') n s t n' s' t' c d is x y h h' m m' e =
    let three = same-three n s t n' s' t' (number_bytes k ++ (flag_bytes st ++ c)) (number_bytes k' ++ (flag_bytes st' ++ d)) m m'
    (turn (both_bytes n s ++ slice_bytes t) (number_bytes k) (flag_bytes st ++ c) (both_bytes n' s' ++ slice_bytes t') (number_bytes k') (flag_bytes st' ++ d)
    (turn ((both_bytes n s ++ slice_bytes t) ++ number_bytes k) (flag_bytes st) c ((both_bytes n' s' ++ slice_bytes t') ++ number_bytes k') (flag_bytes st') d e)) in
    let (events, rest) = same-number k k' (flag_bytes st ++ c) (flag_bytes st' ++ d) x y three.behind in
    let (started, behind) = same-flag st st' c d rest in
    record { call = cc (events, started); net = three.net; state = three.state; third = three.third; behind = behind }
same (call.Step k) (call.Step k') n s t n' s' t' c d is x y h h' m m' e =
    let (third, rest) = same-slice t t' (number_bytes k ++ c) (number_bytes k' ++ d) m.third m'.third
    (turn (slice_bytes t) (number_bytes k) c (slice_bytes t') (number_bytes k') d e) in
    let (value, behind) = same-number k k' c d x y rest in
    record { call = ap (λ v. call.Step v) value; net = one-empty n n' h.0 h'.0; state = one-empty s s' h.1 h'.1; third = third; behind = behind }
same (call.Page k) (call.Page k') n s t n' s' t' c d is x y h h' m m' e =
    let three = same-three n s t n' s' t' (number_bytes k ++ c) (number_bytes k' ++ d) m m'
    (turn (both_bytes n s ++ slice_bytes t) (number_bytes k) c (both_bytes n' s' ++ slice_bytes t') (number_bytes k') d e) in
    let (value, behind) = same-number k k' c d x y three.behind in
    record { call = ap (λ v. call.Page v) value; net = three.net; state = three.state; third = three.third; behind = behind }
same call.Balance call.Balance n s t n' s' t' c d is x y h h' m m' e =
    let three = same-three n s t n' s' t' c d m m' e in
    record { call = refl; net = three.net; state = three.state; third = three.third; behind = three.behind }
same _ _ n s t n' s' t' c d is x y h h' m m' e = absurd (omega (arith, is))

-- WHAT IS READ

no-other : (call : Call) (a b c a' b' c' : ℕ) → a ≡ a' → b ≡ b' → c ≡ c' → HasNoOther call a b c → HasNoOther call a' b' c'
no-other call a b c a' b' c' p q r h = subst (λ x. HasNoOther call x b' c') p (subst (λ y. HasNoOther call a y c') q (subst (λ z. HasNoOther call a b z) r h))

same-request : (a b : Request) → a.call ≡ b.call → a.net ≡ b.net → a.state ≡ b.state → a.third ≡ b.third → a ≡ b
same-request a b p q r s =
    let one : a ≡ record a { call = b.call } = ap (λ v. record a { call = v }) p in
    let two : record a { call = b.call } ≡ record b { state = a.state; third = a.third } = ap (λ v. record b { net = v; state = a.state; third = a.third }) q in
    let three : record b { state = a.state; third = a.third } ≡ record b { third = a.third } = ap (λ v. record b { state = v; third = a.third }) r in
    let four : record b { third = a.third } ≡ b = ap (λ v. record b { third = v }) s in
    one ∙ two ∙ three ∙ four

-- what `read` promises of a request, of bytes that are known; and what is left, and what the slices' buffers hold then
pub record Reads (xs : List ℕ) (left : Option (List ℕ)) (code : ℕ) (r : Request) (nets states thirds : List ℕ) : Type 0 where
  pub call : (code_of r.call ≡ code) × IsCall r.call
  pub bytes : Consumes (Some xs) left (bytes_of r.call (take r.net nets) (take r.state states) (take r.third thirds))
  pub in_bounds : (r.net ≤ length nets) × (r.state ≤ length states) × (r.third ≤ length thirds)
  pub in_range : (r.net < 2 ^ 32) × (r.state < 2 ^ 32) × (r.third < 2 ^ 32)
  pub no_other : HasNoOther r.call r.net r.state r.third

pub small : (xs : List ℕ) (left : Option (List ℕ)) (code : ℕ) (r : Request) (nets states thirds : List ℕ) → Reads xs left code r nets states thirds
    → Small (take r.net nets) (take r.state states) (take r.third thirds)
small xs left code r nets states thirds h = record {
  net = omega (arith, h.in_range.0, length-take-le r.net nets h.in_bounds.0);
  state = omega (arith, h.in_range.1, length-take-le r.state states h.in_bounds.1);
  third = omega (arith, h.in_range.2, length-take-le r.third thirds h.in_bounds.2);
}

pub record SameReads (left left' : Option (List ℕ)) (r r' : Request) (nets states thirds nets' states' thirds' : List ℕ) : Type 0 where
  pub request : r ≡ r'
  pub net : take r.net nets ≡ take r'.net nets'
  pub state : take r.state states ≡ take r'.state states'
  pub third : take r.third thirds ≡ take r'.third thirds'
  pub behind : left ≡ left'

pub once : (xs : List ℕ) (left left' : Option (List ℕ)) (code : ℕ) (r r' : Request) (nets states thirds nets' states' thirds' : List ℕ)
    → Reads xs left code r nets states thirds → Reads xs left' code r' nets' states' thirds' → SameReads left left' r r' nets states thirds nets' states' thirds'
once xs None left' code r r' nets states thirds nets' states' thirds' h h' = absurd h.bytes
once xs (Some ys) None code r r' nets states thirds nets' states' thirds' h h' = absurd h'.bytes
once xs (Some ys) (Some zs) code r r' nets states thirds nets' states' thirds' h h' =
    let n = length-take-le r.net nets h.in_bounds.0 in
    let s = length-take-le r.state states h.in_bounds.1 in
    let t = length-take-le r.third thirds h.in_bounds.2 in
    let n' = length-take-le r'.net nets' h'.in_bounds.0 in
    let s' = length-take-le r'.state states' h'.in_bounds.1 in
    let t' = length-take-le r'.third thirds' h'.in_bounds.2 in
    let all = same r.call r'.call (take r.net nets) (take r.state states) (take r.third thirds) (take r'.net nets') (take r'.state states') (take r'.third thirds') ys zs
    (h.call.0 ∙ sym h'.call.0) h.call.1 h'.call.1
    (no-other r.call _ _ _ _ _ _ (sym n) (sym s) (sym t) h.no_other) (no-other r'.call _ _ _ _ _ _ (sym n') (sym s') (sym t') h'.no_other)
    (small xs (Some ys) code r nets states thirds h) (small xs (Some zs) code r' nets' states' thirds' h') (sym h.bytes ∙ h'.bytes) in
    record {
      request = same-request r r' all.call (sym n ∙ ap length all.net ∙ n') (sym s ∙ ap length all.state ∙ s') (sym t ∙ ap length all.third ∙ t');
      net = all.net;
      state = all.state;
      third = all.third;
      behind = ap (λ l. Some l) all.behind;
    }

-- and no bytes are both a request and a bad one
pub not-bad : (xs : List ℕ) (left : Option (List ℕ)) (code : ℕ) (r : Request) (nets states thirds nets' states' thirds' : List ℕ)
    → length nets' ≡ length nets → length states' ≡ length states → length thirds' ≡ length thirds
    → Reads xs left code r nets states thirds → NoRequest (Some xs) code nets' states' thirds' → ⊥
not-bad xs None code r nets states thirds nets' states' thirds' ln ls lt h none = absurd h.bytes
not-bad xs (Some ys) code r nets states thirds nets' states' thirds' ln ls lt h none =
    let m = small xs (Some ys) code r nets states thirds h in
    let n = length-take-le r.net nets h.in_bounds.0 in
    let s = length-take-le r.state states h.in_bounds.1 in
    let t = length-take-le r.third thirds h.in_bounds.2 in
    none r.call (take r.net nets) (take r.state states) (take r.third thirds) h.call.0 h.call.1
    (omega (arith, n, ln, h.in_bounds.0), m.net) (omega (arith, s, ls, h.in_bounds.1), m.state) (omega (arith, t, lt, h.in_bounds.2), m.third) ys h.bytes
