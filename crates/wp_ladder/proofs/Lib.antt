mod StepLemmas
mod TrimLemmas
mod Rows
