-- What cannot stand at the front of bytes, where something else was read from there.
-- Assumes nothing.
use Rattle.std.proofs.Common.{◌≡◌, ℕ, ◌<◌, ◌≤◌, ◌≢◌, ◌^◌, Bool, true, false, List, [], ◌∷◌, ◌++◌, length, take, Option, None, Some, Result, MatchResult, Ok, Err, refl, sym, ap, ◌∙◌, subst, append_assoc, append-nil, arith, length-take}
use Rattle.std.specs.Int.{w32, from_be_bytes}
use Rattle.std.specs.Io.KnownBytes.{Consumes}
use Rattle.std.proofs.lemmas.Nat.{from_be_bytes-to_be_bytes_4}
use Rattle.model.specs.Tab.{one_if}
use Rattle.menuask.specs.declared.call.Call.{Call}
use Rattle.menuask.specs.declared.call.Call.TheVariants as call
use Rattle.menuask.specs.declared.request.RequestError.{RequestError}
use Rattle.menuask.specs.declared.request.RequestError.TheVariants.{Bad, Failed}
use Rattle.menuask.specs.Requests.{number_bytes, slice_bytes, both_bytes, flag_bytes, event_bytes, IsEvent, HasRoom, Lacks, NoNumber, NoSlice, NoBoth, NoEvent, NoRequest, OnBad, IfBad, IsCall, code_of, bytes_of}

-- two lists that begin with equally many elements, and are equal, begin with the same
pub same-front : (a b c d : List ℕ) → length a ≡ length b → a ++ c ≡ b ++ d → (a ≡ b) × (c ≡ d)
same-front [] [] c d long e = (refl, e)
same-front [] (y ∷ b) c d long e = absurd (omega arith)
same-front (x ∷ a) [] c d long e = absurd (omega arith)
same-front (x ∷ a) (y ∷ b) c d long e =
    let head : x ≡ y = cc in
    let tail : a ++ c ≡ b ++ d = cc in
    let rest : length a ≡ length b = omega arith in
    let (front, behind) = same-front a b c d rest tail in
    (cc, behind)

pub same-number : (m n : ℕ) (c d : List ℕ) → m < 2 ^ 32 → n < 2 ^ 32 → number_bytes m ++ c ≡ number_bytes n ++ d → (m ≡ n) × (c ≡ d)
same-number m n c d fits fits' e =
    let (front, behind) = same-front (number_bytes m) (number_bytes n) c d refl e in
    (sym (from_be_bytes-to_be_bytes_4 m fits) ∙ ap (from_be_bytes w32) front ∙ from_be_bytes-to_be_bytes_4 n fits', behind)

pub same-slice : (s t c d : List ℕ) → length s < 2 ^ 32 → length t < 2 ^ 32 → slice_bytes s ++ c ≡ slice_bytes t ++ d → (s ≡ t) × (c ≡ d)
same-slice s t c d fits fits' e =
    let (long, behind) = same-number (length s) (length t) (s ++ c) (t ++ d) fits fits'
    (sym (append_assoc (number_bytes (length s)) s c) ∙ e ∙ append_assoc (number_bytes (length t)) t d) in
    same-front s t c d long behind

-- what is returned of a part that is bad, where its being so says as much of the whole
pub goes-on : {B : Type 0} (r : Result B RequestError) (why : RequestError) (P Q : Type 0) → r ≡ Err why → OnBad why P → (P → Q) → IfBad r Q
goes-on r why P Q is p f = subst (λ x. IfBad x Q) (sym is) (at why p)
  where
    at : (w : RequestError) → OnBad w P → OnBad w Q
    at Bad h = f h
    at (Failed e) h = tt

pub says : {B : Type 0} (r : Result B RequestError) (Q : Type 0) → Q → IfBad r Q
says (Ok x) Q q = tt
says (Err Bad) Q q = q
says (Err (Failed e)) Q q = tt

pub says-so : {B : Type 0} (r : Result B RequestError) (P : B → Type 0) (X Q : Type 0) → MatchResult r P (λ why. (why ≡ Bad) × X) → (X → Q) → IfBad r Q
says-so (Ok x) P X Q h f = tt
says-so (Err Bad) P X Q h f = f h.1
says-so (Err (Failed e)) P X Q h f = tt

-- BEHIND WHAT WAS READ

pub lacks-more : (a : Option (List ℕ)) (bs cs : List ℕ) → Lacks a bs → Lacks a (bs ++ cs)
lacks-more None bs cs h = tt
lacks-more (Some xs) bs cs h = λ rest e. h (cs ++ rest) (e ∙ append_assoc bs cs rest)

pub lacks-behind : (a b : Option (List ℕ)) (bs bs' cs : List ℕ) → ((c d : List ℕ) → bs ++ c ≡ bs' ++ d → c ≡ d) → Consumes a b bs → Lacks b cs → Lacks a (bs' ++ cs)
lacks-behind None b bs bs' cs same p h = tt
lacks-behind (Some xs) None bs bs' cs same p h = absurd p
lacks-behind (Some xs) (Some ys) bs bs' cs same p h = λ rest e. h rest (same ys (cs ++ rest) (sym p ∙ e ∙ append_assoc bs' cs rest))

pub lacks-other : (a b : Option (List ℕ)) (bs bs' : List ℕ) → ((c d : List ℕ) → bs ++ c ≢ bs' ++ d) → Consumes a b bs → Lacks a bs'
lacks-other None b bs bs' other p = tt
lacks-other (Some xs) None bs bs' other p = absurd p
lacks-other (Some xs) (Some ys) bs bs' other p = λ rest e. other ys rest (sym p ∙ e)

pub lacks-behind-number : (a b : Option (List ℕ)) (m n : ℕ) (cs : List ℕ) → Consumes a b (number_bytes m) → Lacks b cs → Lacks a (number_bytes n ++ cs)
lacks-behind-number a b m n cs = lacks-behind a b (number_bytes m) (number_bytes n) cs (λ c d e. (same-front (number_bytes m) (number_bytes n) c d refl e).1)

pub lacks-behind-slice : (a b : Option (List ℕ)) (s t cs : List ℕ) → length s < 2 ^ 32 → length t < 2 ^ 32 → Consumes a b (slice_bytes s) → Lacks b cs → Lacks a (slice_bytes t ++ cs)
lacks-behind-slice a b s t cs fits fits' = lacks-behind a b (slice_bytes s) (slice_bytes t) cs (λ c d e. (same-slice s t c d fits fits' e).1)

pub lacks-behind-both : (a b : Option (List ℕ)) (n s n' s' cs : List ℕ) → length n < 2 ^ 32 → length s < 2 ^ 32 → length n' < 2 ^ 32 → length s' < 2 ^ 32
    → Consumes a b (both_bytes n s) → Lacks b cs → Lacks a (both_bytes n' s' ++ cs)
lacks-behind-both a b n s n' s' cs nf sf nf' sf' =
    lacks-behind a b (both_bytes n s) (both_bytes n' s') cs
    (λ c d e. (same-slice s s' c d sf sf' (same-slice n n' (slice_bytes s ++ c) (slice_bytes s' ++ d) nf nf'
    (sym (append_assoc (slice_bytes n) (slice_bytes s) c) ∙ e ∙ append_assoc (slice_bytes n') (slice_bytes s') d)).1).1)

-- THE PARTS

-- a number that is not in its place
pub other-number : (a b : Option (List ℕ)) (m n : ℕ) → m < 2 ^ 32 → n < 2 ^ 32 → m ≢ n → Consumes a b (number_bytes m) → Lacks a (number_bytes n)
other-number a b m n fits fits' differ = lacks-other a b (number_bytes m) (number_bytes n) (λ c d e. differ (same-number m n c d fits fits' e).0)

pub no-number-slice : (a : Option (List ℕ)) (buffer : List ℕ) → NoNumber a → NoSlice a buffer
no-number-slice a buffer none slice room = lacks-more a (number_bytes (length slice)) slice (none (length slice))

pub no-state : (a b : Option (List ℕ)) (nets states taken : List ℕ) → length taken < 2 ^ 32 → Consumes a b (slice_bytes taken) → NoSlice b states → NoBoth a nets states
no-state a b nets states taken small p none net state fits fits' =
    lacks-behind-slice a b taken net (slice_bytes state) small fits.1 p (none state fits')

-- THE NUMBERS OF AN EVENT

flag-one : (started : Bool) → one_if started ≤ 1
flag-one true = omega arith
flag-one false = omega arith

pub flag-small : (started : Bool) → one_if started < 2 ^ 32
flag-small started = omega (arith, flag-one started)

pub no-first : (a : Option (List ℕ)) → NoNumber a → NoEvent a
no-first a none first second started f s =
    lacks-more a (number_bytes first ++ number_bytes second) (flag_bytes started) (lacks-more a (number_bytes first) (number_bytes second) (none first))

pub no-second : (a b : Option (List ℕ)) (m : ℕ) → Consumes a b (number_bytes m) → NoNumber b → NoEvent a
no-second a b m p none first second started f s =
    lacks-more a (number_bytes first ++ number_bytes second) (flag_bytes started) (lacks-behind-number a b m first (number_bytes second) p (none second))

pub no-started : (a b d : Option (List ℕ)) (m n : ℕ) → Consumes a b (number_bytes m) → Consumes b d (number_bytes n) → ((k : ℕ) → Lacks d (number_bytes k)) → NoEvent a
no-started a b d m n p q none first second started f s =
    rw append_assoc (lacks-behind-number a b m first (number_bytes second ++ flag_bytes started) p
    (lacks-behind-number b d n second (flag_bytes started) q (none (one_if started))))

-- three numbers that are not an event's
pub no-event : (a b d e : Option (List ℕ)) (l m n : ℕ) → l < 2 ^ 32 → m < 2 ^ 32 → n < 2 ^ 32 → ¬ (IsEvent l m n)
    → Consumes a b (number_bytes l) → Consumes b d (number_bytes m) → Consumes d e (number_bytes n) → NoEvent a
no-event None b d e l m n lf mf nf not p q r first second started f s = tt
no-event (Some xs) None d e l m n lf mf nf not p q r first second started f s = absurd p
no-event (Some xs) (Some ys) None e l m n lf mf nf not p q r first second started f s = absurd q
no-event (Some xs) (Some ys) (Some zs) None l m n lf mf nf not p q r first second started f s = absurd r
no-event (Some xs) (Some ys) (Some zs) (Some us) l m n lf mf nf not p q r first second started f s = λ rest eq.
    let one : number_bytes l ++ ys ≡ number_bytes first ++ ((number_bytes second ++ flag_bytes started) ++ rest) =
    sym p ∙ eq ∙ ap (λ x. x ++ rest) (append_assoc (number_bytes first) (number_bytes second) (flag_bytes started))
    ∙ append_assoc (number_bytes first) (number_bytes second ++ flag_bytes started) rest in
    let (is-first, behind) = same-number l first ys ((number_bytes second ++ flag_bytes started) ++ rest) lf (omega (arith, f)) one in
    let two : number_bytes m ++ zs ≡ number_bytes second ++ (flag_bytes started ++ rest) =
    sym q ∙ behind ∙ append_assoc (number_bytes second) (flag_bytes started) rest in
    let (is-second, behind') = same-number m second zs (flag_bytes started ++ rest) mf (omega (arith, s)) two in
    let (is-started, behind'') = same-number n (one_if started) us rest nf (flag-small started) (sym r ∙ behind') in
    not (omega (arith, is-first, f), omega (arith, is-second, s), omega (arith, is-started, flag-one started))

-- NOTHING THAT MAY BE ASKED

-- what stands behind the net and the state, where a call has both
abbrev pub behind_both : Call → List ℕ → List ℕ
behind_both (call.Event first second started) third = event_bytes first second started
behind_both (call.Back first second started) third = event_bytes first second started
behind_both (call.Degree transition) third = number_bytes transition
behind_both (call.Run started) third = slice_bytes third ++ flag_bytes started
behind_both (call.Walk events started) third = slice_bytes third ++ (number_bytes events ++ flag_bytes started)
behind_both (call.Page budget) third = slice_bytes third ++ number_bytes budget
behind_both call.Balance third = slice_bytes third
behind_both _ third = []

-- and behind the third slice
abbrev pub behind_third : Call → List ℕ
behind_third (call.Run started) = flag_bytes started
behind_third (call.Walk events started) = number_bytes events ++ flag_bytes started
behind_third (call.Page budget) = number_bytes budget
behind_third _ = []

abbrev pub NoRest : Option (List ℕ) → ℕ → List ℕ → Type 0
NoRest known code thirds = (call : Call) (third : List ℕ) → code_of call ≡ code → IsCall call → HasRoom thirds third → Lacks known (behind_both call third)

abbrev pub NoLast : Option (List ℕ) → ℕ → Type 0
NoLast known code = (call : Call) → code_of call ≡ code → Lacks known (behind_third call)

begins-with-both : (call : Call) (net state third : List ℕ) → code_of call ≢ 1 → code_of call ≢ 10 → bytes_of call net state third ≡ both_bytes net state ++ behind_both call third
begins-with-both call.CheckNet net state third one ten = absurd (one refl)
begins-with-both call.Initial net state third one ten = sym (append-nil (both_bytes net state))
begins-with-both call.CheckState net state third one ten = sym (append-nil (both_bytes net state))
begins-with-both (call.Event f s st) net state third one ten = refl
begins-with-both (call.Back f s st) net state third one ten = refl
begins-with-both (call.Degree k) net state third one ten = refl
begins-with-both call.Owed net state third one ten = sym (append-nil (both_bytes net state))
begins-with-both (call.Run st) net state third one ten = append_assoc (both_bytes net state) (slice_bytes third) (flag_bytes st)
begins-with-both (call.Walk k st) net state third one ten =
    append_assoc (both_bytes net state ++ slice_bytes third) (number_bytes k) (flag_bytes st)
    ∙ append_assoc (both_bytes net state) (slice_bytes third) (number_bytes k ++ flag_bytes st)
begins-with-both (call.Step k) net state third one ten = absurd (ten refl)
begins-with-both (call.Page k) net state third one ten = append_assoc (both_bytes net state) (slice_bytes third) (number_bytes k)
begins-with-both call.Balance net state third one ten = refl

pub no-rest : (a b : Option (List ℕ)) (code : ℕ) (nets states thirds n s : List ℕ) → code ≢ 1 → code ≢ 10 → length n < 2 ^ 32 → length s < 2 ^ 32
    → Consumes a b (both_bytes n s) → NoRest b code thirds → NoRequest a code nets states thirds
no-rest a b code nets states thirds n s one ten nf sf p none call net state third is asked fn fs ft =
    subst (Lacks a) (sym (begins-with-both call net state third (λ e. one (sym is ∙ e)) (λ e. ten (sym is ∙ e))))
    (lacks-behind-both a b n s net state (behind_both call third) nf sf fn.1 fs.1 p (none call third is asked ft))

pub no-degree : (b : Option (List ℕ)) (thirds : List ℕ) → NoNumber b → NoRest b 6 thirds
no-degree b thirds none (call.Degree k) third is asked room = none k
no-degree b thirds none _ third is asked room = absurd (omega arith)

pub no-done : (b : Option (List ℕ)) (thirds : List ℕ) → NoEvent b → NoRest b 4 thirds
no-done b thirds none (call.Event first second started) third is asked room = none first second started asked.0 asked.1
no-done b thirds none _ third is asked room = absurd (omega arith)

pub no-undone : (b : Option (List ℕ)) (thirds : List ℕ) → NoEvent b → NoRest b 5 thirds
no-undone b thirds none (call.Back first second started) third is asked room = none first second started asked.0 asked.1
no-undone b thirds none _ third is asked room = absurd (omega arith)

pub no-third : (b : Option (List ℕ)) (code : ℕ) (thirds : List ℕ) → 7 < code → code ≢ 10 → NoSlice b thirds → NoRest b code thirds
no-third b code thirds late ten none (call.Run started) third is asked room = lacks-more b (slice_bytes third) (flag_bytes started) (none third room)
no-third b code thirds late ten none (call.Walk k started) third is asked room = lacks-more b (slice_bytes third) (number_bytes k ++ flag_bytes started) (none third room)
no-third b code thirds late ten none (call.Page k) third is asked room = lacks-more b (slice_bytes third) (number_bytes k) (none third room)
no-third b code thirds late ten none call.Balance third is asked room = none third room
no-third b code thirds late ten none _ third is asked room = absurd (omega arith)

pub no-last : (b d : Option (List ℕ)) (code : ℕ) (thirds t : List ℕ) → 7 < code → code ≢ 10 → code ≢ 12 → length t < 2 ^ 32
    → Consumes b d (slice_bytes t) → NoLast d code → NoRest b code thirds
no-last b d code thirds t late ten twelve tf p none (call.Run started) third is asked room =
    lacks-behind-slice b d t third (flag_bytes started) tf room.1 p (none (call.Run started) is)
no-last b d code thirds t late ten twelve tf p none (call.Walk k started) third is asked room =
    lacks-behind-slice b d t third (number_bytes k ++ flag_bytes started) tf room.1 p (none (call.Walk k started) is)
no-last b d code thirds t late ten twelve tf p none (call.Page k) third is asked room =
    lacks-behind-slice b d t third (number_bytes k) tf room.1 p (none (call.Page k) is)
no-last b d code thirds t late ten twelve tf p none _ third is asked room = absurd (omega arith)

pub no-fact : (d : Option (List ℕ)) → NoNumber d → NoLast d 8
no-fact d none (call.Run started) is = none (one_if started)
no-fact d none _ is = absurd (omega arith)

-- a number above 1 says neither that a start has happened nor that none has
other-flag : (a b : Option (List ℕ)) (n : ℕ) (started : Bool) → n < 2 ^ 32 → 1 < n → Consumes a b (number_bytes n) → Lacks a (flag_bytes started)
other-flag a b n started fits above p =
    let differ : n ≢ one_if started = omega (arith, flag-one started) in
    other-number a b n (one_if started) fits (flag-small started) differ p

pub other-fact : (d e : Option (List ℕ)) (n : ℕ) → n < 2 ^ 32 → 1 < n → Consumes d e (number_bytes n) → NoLast d 8
other-fact d e n fits above p (call.Run started) is = other-flag d e n started fits above p
other-fact d e n fits above p _ is = absurd (omega arith)

pub no-events : (d : Option (List ℕ)) → NoNumber d → NoLast d 9
no-events d none (call.Walk k started) is = lacks-more d (number_bytes k) (flag_bytes started) (none k)
no-events d none _ is = absurd (omega arith)

pub no-fact-behind : (d e : Option (List ℕ)) (m : ℕ) → Consumes d e (number_bytes m) → NoNumber e → NoLast d 9
no-fact-behind d e m p none (call.Walk k started) is = lacks-behind-number d e m k (flag_bytes started) p (none (one_if started))
no-fact-behind d e m p none _ is = absurd (omega arith)

pub other-fact-behind : (d e f : Option (List ℕ)) (m n : ℕ) → n < 2 ^ 32 → 1 < n → Consumes d e (number_bytes m) → Consumes e f (number_bytes n) → NoLast d 9
other-fact-behind d e f m n fits above p q (call.Walk k started) is =
    lacks-behind-number d e m k (flag_bytes started) p (other-flag e f n started fits above q)
other-fact-behind d e f m n fits above p q _ is = absurd (omega arith)

pub no-budget : (d : Option (List ℕ)) → NoNumber d → NoLast d 11
no-budget d none (call.Page k) is = none k
no-budget d none _ is = absurd (omega arith)

pub no-step : (a b : Option (List ℕ)) (nets states thirds t : List ℕ) → length t < 2 ^ 32 → Consumes a b (slice_bytes t) → NoNumber b
    → NoRequest a 10 nets states thirds
no-step a b nets states thirds t tf p none (call.Step k) net state third is asked fn fs ft = lacks-behind-slice a b t third (number_bytes k) tf ft.1 p (none k)
no-step a b nets states thirds t tf p none _ net state third is asked fn fs ft = absurd (omega arith)

take-small : (n : ℕ) (l : List ℕ) → n < 2 ^ 32 → length (take n l) < 2 ^ 32
take-small n l small = omega (arith, length-take n l)

-- the same of a net, a state and a third slice that were read to the front of their buffers
pub in-rest : (k : ℕ) → 1 < k → k ≢ 10 → (a b : Option (List ℕ)) (code : ℕ) (nets states thirds net state : List ℕ) (n s : ℕ) → code ≡ k → n < 2 ^ 32 → s < 2 ^ 32
    → Consumes a b (both_bytes (take n net) (take s state)) → NoRest b k thirds → NoRequest a code nets states thirds
in-rest k above ten a b code nets states thirds net state n s is nf sf p none =
    subst (λ x. NoRequest a x nets states thirds) (sym is)
    (no-rest a b k nets states thirds (take n net) (take s state) (λ e. omega (arith, e)) ten (take-small n net nf) (take-small s state sf) p none)

pub in-last : (k : ℕ) → 7 < k → k ≢ 10 → k ≢ 12 → (b d : Option (List ℕ)) (thirds third : List ℕ) (t : ℕ) → t < 2 ^ 32 → Consumes b d (slice_bytes (take t third))
    → NoLast d k → NoRest b k thirds
in-last k late ten twelve b d thirds third t tf p none = no-last b d k thirds (take t third) late ten twelve (take-small t third tf) p none

pub in-third : (k : ℕ) → 7 < k → k ≢ 10 → (b : Option (List ℕ)) (thirds thirds' : List ℕ) → thirds' ≡ thirds → NoSlice b thirds' → NoRest b k thirds
in-third k late ten b thirds thirds' same none = no-third b k thirds late ten (subst (NoSlice b) same none)

pub in-step : (a b : Option (List ℕ)) (code : ℕ) (nets states thirds third : List ℕ) (t : ℕ) → code ≡ 10 → t < 2 ^ 32 → Consumes a b (slice_bytes (take t third))
    → NoNumber b → NoRequest a code nets states thirds
in-step a b code nets states thirds third t is tf p none =
    subst (λ x. NoRequest a x nets states thirds) (sym is) (no-step a b nets states thirds (take t third) (take-small t third tf) p none)
