-- What the functions of `utils` are proved equal to. Assumes nothing.
pub mod Utils
pub mod ParameterInterpolator
pub mod Filter
pub mod DelayLine
pub mod CosineOscillator
pub mod Amplitudes
pub mod Units
pub mod Values
